use Rattle.lwp_types.proofs.effects.empty.Given as goal
use Rattle.std.proofs.Common.{vec_capacity, vec_len, ◌≡◌}

abbrev pub invariant-loop-places : goal.invariant-loop-places
invariant-loop-places l = vec_capacity l.places ≡ vec_capacity l.fn.places

abbrev pub decreases-loop-places : goal.decreases-loop-places
decreases-loop-places l = vec_len l.places
