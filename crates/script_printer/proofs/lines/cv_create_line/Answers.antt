use Rattle.script_printer.proofs.lines.cv_create_line.Goals as goal
use Rattle.std.proofs.Common.{rules}

pub returns : goal.returns
returns c = search rules
