use Rattle.std.proofs.Common.{rules}
use Rattle.trace_lines.proofs.reading.gain_of.Goals as goal

pub returns-then-starts-2 : goal.returns-then-starts-2
returns-then-starts-2 c = search rules
