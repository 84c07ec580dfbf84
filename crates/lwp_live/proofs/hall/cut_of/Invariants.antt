use Rattle.lwp_live.proofs.hall.cut_of.Given as goal
use Rattle.std.proofs.Common.{length, ◌≤◌}

abbrev pub invariant-loop-end : goal.invariant-loop-end
invariant-loop-end l = l.end ≤ length l.fn.bytes

abbrev pub decreases-loop-end : goal.decreases-loop-end
decreases-loop-end l = l.end
