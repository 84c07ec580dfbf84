use Rattle.std.proofs.Common.{◌<◌, ◌≤◌, ◌-◌}
use Rattle.lists.proofs.thread_index.mask_for.Given as goal

abbrev pub invariant-loop-mask : goal.invariant-loop-mask
invariant-loop-mask l = 1 ≤ l.width → l.mask < l.width

abbrev pub decreases-loop-mask : goal.decreases-loop-mask
decreases-loop-mask l = l.width - l.mask
