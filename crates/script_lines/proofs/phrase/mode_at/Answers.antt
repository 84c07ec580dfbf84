use Rattle.std.proofs.Common.{rules}
use borrow.Author.Tests.{tests}
use Rattle.script_lines.proofs.phrase.mode_at.Goals as goal

pub returns-else-eq-2 : goal.returns-else-eq-2
returns-else-eq-2 c = search (tests, rules)
