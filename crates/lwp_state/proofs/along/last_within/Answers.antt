use Rattle.lwp_state.proofs.AlongLaws.{counting-first, counting-on, nearer, not-past, stops-before, stops-there, told-here}
use Rattle.lwp_state.specs.Along.{moment_at}
use Rattle.replay.specs.Recorded.{line_count}
use Rattle.streams.specs.Counting.{Counting}
use Rattle.streams.specs.Streams.{Stream}
use Rattle.std.proofs.Common.{Some, ap, arith, false, rules, true, ◌∙◌, ◌≡◌}
use Rattle.std.specs.Prelude.{nat_lt}
use Rattle.lwp_state.proofs.along.last_within.Goals as goal

pub loop-end-init : goal.loop-end-init
loop-end-init g c =
    counting-first g.B.Body.next g.P.Program.bodies g.P.Program.proc_names (moment_at c.args.takes.now c.args.end) c.args.run.now
    c.reach_of-here.result c.args.most c.new-lines.result
    c.requires.first c.requires.on c.reach_of-here.ensures.takes c.reach_of-here.ensures.calls (ap (λ (x : Counting). x.bytes) c.new-lines.ensures)

pub loop-end-smaller : goal.loop-end-smaller
loop-end-smaller g c =
    let sink : Stream = record {
      old = Some c.loop-end.lines.bytes;
      new = Some c.step.new.sink.bytes;
      faults_old = c.loop-end.lines.faults;
      faults_new = c.step.new.sink.faults;
    } in
    nearer g.B.Body.next g.P.Program.bodies g.P.Program.proc_names c.args.takes.now c.args.end sink c.args.run.now c.loop-end.run c.step.new.run
    c.loop-end.here c.reach_of-here-in-loop-end.result c.requires.within c.loop-end.invariant.going c.in_ok-step.ensures
    c.reach_of-here-in-loop-end.ensures.takes c.reach_of-here-in-loop-end.ensures.calls

pub loop-end-preserved : goal.loop-end-preserved
loop-end-preserved g c =
    let under : nat_lt c.args.most (line_count c.step.new.sink.bytes) ≡ false = search rules in
    counting-on g.B.Body.next g.P.Program.bodies g.P.Program.proc_names (moment_at c.args.takes.now c.args.end) c.args.run.now c.loop-end.run c.step.new.run
    c.loop-end.here c.reach_of-here-in-loop-end.result c.args.most c.loop-end.lines c.step.new.sink c.loop-end.invariant
    c.in_ok-step.ensures c.reach_of-here-in-loop-end.ensures.takes c.reach_of-here-in-loop-end.ensures.calls under

pub returns-clause-last : goal.returns-clause-last
returns-clause-last g c =
    let same : c.loop-end.here ≡ c.args.end = search rules in
    stops-there g.B.Body.next g.P.Program.bodies g.P.Program.proc_names c.args.takes.now c.args.end c.loop-end.here c.args.run.now
    c.loop-end.run c.args.most c.loop-end.lines c.requires.within c.loop-end.invariant same

pub returns-then-more_than-clause-within : goal.returns-then-more_than-clause-within
returns-then-more_than-clause-within g c =
    omega (
      arith,
      c.loop-end.invariant.going.takes,
      c.requires.within,
      (not-past g.B.Body.next g.P.Program.bodies c.args.takes.now c.args.end c.loop-end.run c.requires.within c.loop-end.invariant.going.on).0,
    )

pub returns-then-more_than-clause-last : goal.returns-then-more_than-clause-last
returns-then-more_than-clause-last g c =
    let over : nat_lt c.args.most (line_count c.step.new.sink.bytes) ≡ true = search rules in
    stops-before g.B.Body.next g.P.Program.bodies g.P.Program.proc_names c.args.takes.now c.args.end c.loop-end.here c.args.run.now
    c.loop-end.run c.step.new.run c.args.most c.loop-end.lines c.step.new.sink
    c.requires.within c.loop-end.invariant c.in_ok-step.ensures over

pub returns-clause-lines : goal.returns-clause-lines
returns-clause-lines g c =
    c.count.ensures
    ∙ told-here g.B.Body.next g.P.Program.bodies g.P.Program.proc_names c.args.takes.now c.args.end c.loop-end.here c.args.run.now
    c.loop-end.run c.args.most c.loop-end.lines c.requires.within c.loop-end.invariant

pub returns-then-more_than-clause-lines : goal.returns-then-more_than-clause-lines
returns-then-more_than-clause-lines g c =
    c.count-written.ensures
    ∙ told-here g.B.Body.next g.P.Program.bodies g.P.Program.proc_names c.args.takes.now c.args.end c.loop-end.here c.args.run.now
    c.loop-end.run c.args.most c.loop-end.lines c.requires.within c.loop-end.invariant
