use Rattle.script_printer.proofs.printing.with_source.Goals as goal
use Rattle.std.proofs.Common.{rules}

pub returns-in-None : goal.returns-in-None
returns-in-None c = search rules
