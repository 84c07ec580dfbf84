use Rattle.script_run.specs.Ties.{IsSameOutside, IsTied, intakes}
use Rattle.script_run.proofs.BesideLaws.{WentBeside}
use Rattle.pod_runner.proofs.Rounds.{stream}
use Rattle.script_run.proofs.beside.run_while_posting.Given as goal

abbrev pub invariant-loop : goal.invariant-loop
invariant-loop g l = WentBeside
    (stream (g.K.Sink.written l.fn.sink) (g.K.Sink.written l.sink) (g.K.Sink.faults l.fn.sink) (g.K.Sink.faults l.sink)) l.fn.played
    l.played (intakes l.fn.outside) (intakes l.outside)
    × IsTied l.outside × IsSameOutside l.fn.outside l.outside
