use Rattle.std.proofs.Common.{rules}
use Rattle.trace_page.proofs.words.from_to.Goals as goal

pub returns-else-to-most : goal.returns-else-to-most
returns-else-to-most c = search rules

pub returns-then-to-most : goal.returns-then-to-most
returns-then-to-most c = search rules
