use Rattle.script_printer.proofs.printing.with_who.Goals as goal
use Rattle.std.proofs.Common.{rules}

pub returns-in-First : goal.returns-in-First
returns-in-First c = search rules
