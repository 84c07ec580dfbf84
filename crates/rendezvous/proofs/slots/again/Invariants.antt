use Rattle.rendezvous.proofs.slots.again.Given as goal
use Rattle.std.proofs.Common.{take, vec_capacity, ◌≡◌}

abbrev pub invariant-loop-slot : goal.invariant-loop-slot
invariant-loop-slot l = (l.copy.items ≡ take l.slot-index l.slots.items) × (vec_capacity l.copy ≡ vec_capacity l.slots)
