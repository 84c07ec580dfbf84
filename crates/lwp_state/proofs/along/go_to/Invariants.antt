use Rattle.std.proofs.Common.{◌+◌, ◌-◌}
use Rattle.lwp_state.proofs.AlongLaws.{Going}
use Rattle.lwp_state.specs.Along.{moment_at}
use Rattle.lwp_state.proofs.along.go_to.Given as goal

abbrev pub invariant-loop-end : goal.invariant-loop-end
invariant-loop-end g l = Going g.B.Body.next g.P.Program.bodies (moment_at l.takes l.end) l.initial.run l.run l.here

abbrev pub decreases-loop-end : goal.decreases-loop-end
decreases-loop-end g l = (l.end.takes - l.here.takes) + (l.end.calls - l.here.calls)
