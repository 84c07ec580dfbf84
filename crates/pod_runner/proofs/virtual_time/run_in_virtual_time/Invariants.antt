use Rattle.std.proofs.Common.{false, ◌-◌, ◌≡◌}
use Rattle.pod_runner.specs.Virtual.{IsLater}
use Rattle.pod_runner.proofs.virtual_time.run_in_virtual_time.Given as goal

abbrev pub invariant-loop-status : goal.invariant-loop-status
invariant-loop-status g l = (l.run.failed ≡ false) × IsLater l.initial.run l.run

abbrev pub decreases-loop-status : goal.decreases-loop-status
decreases-loop-status g l = l.run.turns - l.run.calls
