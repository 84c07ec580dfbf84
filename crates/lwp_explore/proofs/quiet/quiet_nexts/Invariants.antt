use Rattle.lwp_explore.proofs.quiet.quiet_nexts.Given as goal
use Rattle.lwp_explore.specs.Quiet.{quiet_next}
use Rattle.std.proofs.Common.{map, ◌≡◌}
use Rattle.std.specs.List.{range_with_len}

abbrev pub invariant-loop-number : goal.invariant-loop-number
invariant-loop-number l = l.nexts.items ≡ map (quiet_next l.rows l.lasts) (range_with_len 0 l.number)
