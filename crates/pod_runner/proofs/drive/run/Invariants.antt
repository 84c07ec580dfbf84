use Rattle.std.proofs.Common.{◌+◌, ◌-◌}
use Rattle.event_gate.specs.Shelves.{left_in_all}
use Rattle.pod_runner.proofs.Rounds.{Going, stream}
use Rattle.pod_runner.proofs.drive.run.Given as goal

abbrev pub invariant-loop-halt : goal.invariant-loop-halt
invariant-loop-halt g l = Going g.B.Body.next g.P.Program.bodies g.P.Program.proc_names
    (stream (g.K.Sink.written l.initial.sink) (g.K.Sink.written l.sink) (g.K.Sink.faults l.initial.sink) (g.K.Sink.faults l.sink))
    l.initial.run l.run (g.G.Gate.stock l.initial.gate) (g.G.Gate.stock l.gate)

abbrev pub decreases-loop-halt : goal.decreases-loop-halt
decreases-loop-halt g l = (l.run.turns - l.run.calls) + left_in_all (g.G.Gate.stock l.gate)
