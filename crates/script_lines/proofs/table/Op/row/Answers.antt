use Rattle.script_lines.specs.Table.{table_row}
use Rattle.script_lines.proofs.TableLaws.{row_there}
use Rattle.script_lines.proofs.table.Op.row.Goals as goal

pub returns : goal.returns
returns c = row_there table_row c.table.result.now _ c.args.self c.table.ensures
