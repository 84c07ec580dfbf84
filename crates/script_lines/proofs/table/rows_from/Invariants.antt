use Rattle.std.proofs.Common.{ℕ, ◌+◌, ◌*◌, ◌<◌, ◌≤◌, length, slice_index_or}
use Rattle.script_lines.specs.Table.{table_row, first_letter}
use Rattle.script_lines.proofs.table.rows_from.Given as goal

abbrev pub invariant-loop-step : goal.invariant-loop-step
invariant-loop-step l = record {
  within : l.first + 2 * l.step ≤ length l.rows;
  earlier : (k : ℕ) (d : _) → k < l.first → first_letter (table_row (slice_index_or l.rows k d)).key < l.letter;
}

abbrev pub decreases-loop-step : goal.decreases-loop-step
decreases-loop-step l = l.step
