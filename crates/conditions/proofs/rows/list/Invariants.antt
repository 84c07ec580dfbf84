use Rattle.conditions.proofs.rows.list.Given as goal
use Rattle.lwp_types.specs.Conditions.{condition_numbers}
use Rattle.std.proofs.Common.{take, ◌≡◌}

abbrev pub invariant-loop-row : goal.invariant-loop-row
invariant-loop-row l = l.ids ≡ condition_numbers (take l.row-index l.rows)
