use Rattle.lwp_explore.proofs.AlongLaws.{Going}
use Rattle.lwp_explore.specs.Standing.{trace_now}
use Rattle.pod_runner.specs.Run.{Writes}
use Rattle.lwp_explore.proofs.along.go_along.Given as goal

abbrev pub invariant-loop-step : goal.invariant-loop-step
invariant-loop-step g l = Going l.initial.machine l.path l.step-index l.machine
    × Writes (g.K.Sink.written l.initial.sink) (g.K.Sink.written l.sink) (trace_now l.initial.machine) (trace_now l.machine)
