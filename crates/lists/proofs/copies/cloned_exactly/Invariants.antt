use Rattle.lists.proofs.copies.cloned_exactly.Given as goal
use Rattle.std.proofs.Common.{take, vec_capacity, ◌≡◌}

abbrev pub invariant-loop-value : goal.invariant-loop-value
invariant-loop-value g l = (l.copy.items ≡ take l.value-index l.values.items) × (vec_capacity l.copy ≡ vec_capacity l.values)
