use Rattle.script_printer.proofs.lines.with_session.Goals as goal
use Rattle.std.proofs.Common.{rules}

pub returns : goal.returns
returns c = search rules
