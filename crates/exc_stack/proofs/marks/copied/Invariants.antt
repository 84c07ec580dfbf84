use Rattle.exc_stack.proofs.marks.copied.Given as goal
use Rattle.std.proofs.Common.{take, ◌≡◌}

abbrev pub invariant-loop-mark : goal.invariant-loop-mark
invariant-loop-mark l = l.copies ≡ take l.mark-index l.marks
