use Rattle.lwp_types.proofs.effects.list_again.Given as goal
use Rattle.std.proofs.Common.{take, vec_capacity, ◌≡◌}

abbrev pub invariant-loop-effect : goal.invariant-loop-effect
invariant-loop-effect l = (l.copy.items ≡ take l.effect-index l.places.items) × (vec_capacity l.copy ≡ vec_capacity l.places)
