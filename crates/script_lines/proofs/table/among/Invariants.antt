use Rattle.std.proofs.Common.{◌≡◌, map, drop}
use Rattle.script_lines.specs.Table.{table_row, op_in}
use Rattle.script_lines.proofs.table.among.Given as goal

abbrev pub invariant-loop-row : goal.invariant-loop-row
invariant-loop-row l = op_in (map table_row (drop l.row-index l.rows)) l.key ≡ op_in (map table_row l.rows) l.key
