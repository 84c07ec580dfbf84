use Rattle.std.proofs.Common.{◌-◌, length}
use Rattle.pod_runner.proofs.Rounds.{stream}
use Rattle.pod_runner.proofs.Serving.{Serving}
use Rattle.pod_runner.proofs.inlets.serve_all.Given as goal

abbrev pub invariant-loop-i : goal.invariant-loop-i
invariant-loop-i g l = Serving g.B.Body.next g.P.Program.bodies g.P.Program.proc_names g.I.Inlet.intake
    (stream (g.K.Sink.written l.initial.sink) (g.K.Sink.written l.sink) (g.K.Sink.faults l.initial.sink) (g.K.Sink.faults l.sink))
    l.i l.initial.run l.run l.initial.inlets.items l.inlets.items

abbrev pub decreases-loop-i : goal.decreases-loop-i
decreases-loop-i g l = length l.inlets.items - l.i
