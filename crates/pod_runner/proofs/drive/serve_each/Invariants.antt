use Rattle.std.proofs.Common.{◌-◌, ◌≤◌, Ok}
use Rattle.std.specs.List.{fold, range_with_len}
use Rattle.pod_runner.specs.Does.{Does}
use Rattle.pod_runner.specs.Eager.{Plan, after_offer}
use Rattle.pod_runner.proofs.Rounds.{stream}
use Rattle.pod_runner.proofs.drive.serve_each.Given as goal

abbrev pub invariant-loop-event : goal.invariant-loop-event
invariant-loop-event g l = (l.from ≤ 32)
    × Does {T = Unit {0}} g.B.Body.next g.P.Program.bodies g.P.Program.proc_names
    (stream (g.K.Sink.written l.initial.sink) (g.K.Sink.written l.sink) (g.K.Sink.faults l.initial.sink) (g.K.Sink.faults l.sink))
    (λ planned plan. fold (λ (now : Plan _) e. after_offer planned e now) plan (range_with_len 0 l.from))
    l.initial.run l.run (g.G.Gate.stock l.initial.gate) (g.G.Gate.stock l.gate) (Ok tt)

abbrev pub decreases-loop-event : goal.decreases-loop-event
decreases-loop-event g l = 32 - l.from
