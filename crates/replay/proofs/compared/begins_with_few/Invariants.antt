use Rattle.std.proofs.Common.{length, take, ◌-◌, ◌≡◌, ◌≤◌}
use Rattle.replay.proofs.compared.begins_with_few.Given as goal

abbrev pub invariant-loop-i : goal.invariant-loop-i
invariant-loop-i l = (l.i ≤ length l.front) × (take l.i l.bytes ≡ take l.i l.front)

abbrev pub decreases-loop-i : goal.decreases-loop-i
decreases-loop-i l = length l.front - l.i
