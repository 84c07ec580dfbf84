use Rattle.lwp_live.proofs.Rounding.{Going}
use Rattle.lwp_live.proofs.beside.go_after.Given as goal
use Rattle.pod_runner.proofs.Rounds.{stream}
use Rattle.script_run.specs.Ties.{any_intake}
use Rattle.std.proofs.Common.{map}

abbrev pub invariant-loop : goal.invariant-loop
invariant-loop g l = Going g.B.Body.next g.P.Program.bodies g.P.Program.proc_names
    (stream (g.T.Sink.written l.fn.trace) (g.T.Sink.written l.trace) (g.T.Sink.faults l.fn.trace) (g.T.Sink.faults l.trace))
    (stream (g.K.Sink.written l.fn.answers) (g.K.Sink.written l.answers) (g.K.Sink.faults l.fn.answers) (g.K.Sink.faults l.answers))
    l.fn.run l.run (map any_intake l.fn.inlets.items) (map any_intake l.inlets.items) l.notes
