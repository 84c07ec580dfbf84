use Rattle.exc_stack.proofs.marks.marks_again.Given as goal
use Rattle.std.proofs.Common.{length, take, vec_capacity, ◌≡◌}

abbrev pub invariant-loop-mark : goal.invariant-loop-mark
invariant-loop-mark l = (l.copy.items ≡ take l.mark-index l.marks.items) × (vec_capacity l.copy ≡ length l.marks.items)
