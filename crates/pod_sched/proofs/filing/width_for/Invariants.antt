use Rattle.pod_sched.proofs.filing.width_for.Given as goal
use Rattle.std.proofs.Common.{◌-◌, ◌≤◌}

abbrev pub invariant-loop-width : goal.invariant-loop-width
invariant-loop-width l = 1 ≤ l.width

abbrev pub decreases-loop-width : goal.decreases-loop-width
decreases-loop-width l = 4096 - l.width
