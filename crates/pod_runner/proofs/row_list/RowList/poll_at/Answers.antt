use Rattle.pod_runner.proofs.Results.{on_ok}
use Rattle.pod_runner.proofs.RowCalls.{call_within, polled}
use Rattle.pod_runner.proofs.row_list.RowList.poll_at.Goals as goal
use Rattle.std.proofs.Common.{◌<◌, arith, length}

pub invariant_of-self : goal.invariant_of-self
invariant_of-self g c = λ up. c.poll_in.ensures.rising (c.self.invariant up)

pub returns-clause-as_many : goal.returns-clause-as_many
returns-clause-as_many g c = rw (← c.self.view_is) c.poll_in.ensures.as_many

pub returns-clause-call : goal.returns-clause-call
returns-clause-call g c =
    let within : c.args.i < length c.self.inside.rows.items = rw (← c.self.view_is) at c.requires in
    λ other. call_within other c.self.inside.gone c.poll_in.new.rows.items c.args.i (omega (arith, within, c.poll_in.ensures.as_many))

pub returns-clause-polls : goal.returns-clause-polls
returns-clause-polls g c =
    let within : c.args.i < length c.self.inside.rows.items = rw (← c.self.view_is) at c.requires in
    rw (← c.self.view_is) (on_ok c.poll_in.result (λ h. polled g.B.Body.next c.args.env.now c.self.inside.gone c.args.i
    c.self.inside.rows.items c.poll_in.new.rows.items c.poll_in.new.env within h) c.poll_in.ensures.polls)
