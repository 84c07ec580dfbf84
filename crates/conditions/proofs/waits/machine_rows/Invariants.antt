use Rattle.conditions.proofs.waits.machine_rows.Given as goal
use Rattle.conditions.specs.ConditionTable.{machine_row}
use Rattle.conditions.specs.Waits.{wait_in}
use Rattle.std.proofs.Common.{map, take, ◌≡◌}

abbrev pub invariant-loop-waiting : goal.invariant-loop-waiting
invariant-loop-waiting l = l.rows ≡ map machine_row (map wait_in (take l.waiting-index l.line))
