use Rattle.std.proofs.Common.{rules}
use Rattle.trace_lines.proofs.reading.answer_entry.Goals as goal

pub returns-then-eq : goal.returns-then-eq
returns-then-eq c = search rules
