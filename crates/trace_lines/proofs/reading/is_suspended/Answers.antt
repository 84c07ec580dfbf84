use Rattle.std.proofs.Common.{rules}
use Rattle.trace_lines.proofs.reading.is_suspended.Goals as goal

pub returns-in-Create : goal.returns-in-Create
returns-in-Create c = search rules
