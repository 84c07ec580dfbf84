use Rattle.std.proofs.Common.{rules}
use Rattle.trace_lines.proofs.reading.who_of.Goals as goal

pub returns-then-starts : goal.returns-then-starts
returns-then-starts c = search rules

pub returns-else-starts : goal.returns-else-starts
returns-else-starts c = search rules
