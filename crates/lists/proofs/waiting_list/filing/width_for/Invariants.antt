use Rattle.std.proofs.Common.{◌≤◌, ◌-◌, ◌^◌}
use Rattle.lists.proofs.waiting_list.filing.width_for.Given as goal

abbrev pub invariant-loop-width : goal.invariant-loop-width
invariant-loop-width l = 1 ≤ l.width

abbrev pub decreases-loop-width : goal.decreases-loop-width
decreases-loop-width l = 2 ^ 64 - l.width
