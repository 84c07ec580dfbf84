use Rattle.std.proofs.Common.{rules}
use Rattle.script_text.proofs.reader.Reader.fault.Goals as goal

pub returns-in-Some-bad-clause-some : goal.returns-in-Some-bad-clause-some
returns-in-Some-bad-clause-some c = search rules

pub returns-else-is_empty-clause-none : goal.returns-else-is_empty-clause-none
returns-else-is_empty-clause-none c = search rules
