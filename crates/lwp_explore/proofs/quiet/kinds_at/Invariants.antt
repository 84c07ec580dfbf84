use Rattle.lwp_explore.proofs.quiet.kinds_at.Given as goal
use Rattle.lwp_explore.specs.Quiet.{kind_at}
use Rattle.std.proofs.Common.{map, ◌≡◌}
use Rattle.std.specs.List.{range_with_len}

abbrev pub invariant-loop-number : goal.invariant-loop-number
invariant-loop-number l = l.kinds.items ≡ map (kind_at l.rows l.rounds) (range_with_len 0 l.number)
