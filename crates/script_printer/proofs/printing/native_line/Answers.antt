use Rattle.script_printer.proofs.printing.native_line.Goals as goal
use Rattle.std.proofs.Common.{rules}

pub returns-in-Session : goal.returns-in-Session
returns-in-Session c = search rules
