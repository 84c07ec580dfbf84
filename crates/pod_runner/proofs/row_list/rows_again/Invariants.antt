use Rattle.pod_runner.proofs.row_list.rows_again.Given as goal
use Rattle.std.proofs.Common.{length, take, vec_capacity, ◌≡◌}

abbrev pub invariant-loop-row : goal.invariant-loop-row
invariant-loop-row g l = (l.copy.items ≡ take l.row-index l.rows.items) × (vec_capacity l.copy ≡ length l.rows.items)
