use Rattle.lwp_live.proofs.hall.bring_all.Given as goal
use Rattle.std.proofs.Common.{length, ◌≡◌}

abbrev pub invariant-loop : goal.invariant-loop
invariant-loop g l = length l.buffer.items ≡ 65536
