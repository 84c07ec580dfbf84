use Rattle.std.proofs.Common.{◌-◌, ◌<◌, ◌^◌, ◌≡◌, ◌≤◌}
use Rattle.pod_sched.proofs.timers.minima.full_size.Given as goal
use Rattle.pod_sched.specs.Timers.Minima.{leaf_under}

abbrev pub invariant-loop-width : goal.invariant-loop-width
invariant-loop-width l = record { full : l.width ≡ leaf_under l.height 1; low : l.height < l.width; most : l.width ≤ 2 ^ 62 }

abbrev pub decreases-loop-width : goal.decreases-loop-width
decreases-loop-width l = l.least - l.width
