use Rattle.std.proofs.Common.{rules}
use Rattle.trace_lines.proofs.words.whole_number.Goals as goal

pub returns-then-digits-word : goal.returns-then-digits-word
returns-then-digits-word c = search rules

pub returns-else-digits-word : goal.returns-else-digits-word
returns-else-digits-word c = search rules
