use Rattle.script_printer.proofs.lines.post_line.Goals as goal
use Rattle.std.proofs.Common.{rules}

pub returns : goal.returns
returns c = search rules
