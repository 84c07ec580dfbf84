use Rattle.std.proofs.Common.{map}
use Rattle.pod_runner.proofs.LiveRounds.{Rounding}
use Rattle.pod_runner.proofs.Rounds.{stream}
use Rattle.pod_runner.proofs.live_rounds.run_live.Given as goal

abbrev pub invariant-loop : goal.invariant-loop
invariant-loop g l = Rounding g.B.Body.next g.P.Program.bodies g.P.Program.proc_names
    (stream (g.K.Sink.written l.fn.sink) (g.K.Sink.written l.sink) (g.K.Sink.faults l.fn.sink) (g.K.Sink.faults l.sink))
    l.fn.run l.run (map g.I.Inlet.intake l.fn.inlets.items) (map g.I.Inlet.intake l.inlets.items)
