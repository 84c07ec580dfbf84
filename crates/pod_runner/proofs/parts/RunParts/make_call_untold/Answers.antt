use Rattle.pod_events.specs.Step.{event_step}
use Rattle.pod_runner.specs.Polls.{Rows}
use Rattle.pod_runner.specs.RunParts.{live_of}
use Rattle.pod_runner.specs.Session.{proc_of}
use Rattle.pod_runner.proofs.Moves.{called_live, chosen_from}
use Rattle.pod_runner.proofs.Results.{on_ok}
use Rattle.pod_runner.proofs.parts.RunParts.make_call_untold.Goals as goal
use Rattle.std.proofs.Common.{ap, ◌∙◌, ◌≡◌}

pub returns : goal.returns
returns g c =
    let es = c.args.self.now.pod in
    let chosen = chosen_from es.state c.args.tid c.requires.current in
    let seen = c.call_at-call.result.now in
    let is : seen ≡ c.poll_at.new.self.call = c.call_at-call.ensures seen ∙ c.poll_at.ensures.call seen in
    on_ok c.settle.result
    (λ settled.
    called_live g.B.Body.next (g.P.Program.bodies c.args.program.now) (live_of c.args.self.now) c.args.tid c.args.i c.set_me.new.self seen
    c.call.new.self c.call.new.effects c.poll_at.new.self.rows c.settle.new.rows.rows c.poll_at.new.env c.proc_of-born.result
    chosen c.requires.place c.requires.within c.set_me.ensures (rw (← is) at c.in_ok-poll_at.ensures.polls) c.in_ok-call.ensures.after
    c.in_ok-call.ensures.effects
    c.proc_of-born.ensures (ap (λ (r : Rows _). r.rows) settled))
    c.settle.ensures
