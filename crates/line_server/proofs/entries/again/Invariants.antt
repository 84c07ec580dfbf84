use Rattle.line_server.proofs.entries.again.Given as goal
use Rattle.std.proofs.Common.{length, take, vec_capacity, ◌≡◌}

abbrev pub invariant-loop-entry : goal.invariant-loop-entry
invariant-loop-entry l = (l.copy.items ≡ take l.entry-index l.entries.items) × (vec_capacity l.copy ≡ length l.entries.items)
