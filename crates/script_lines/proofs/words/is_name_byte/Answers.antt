use Rattle.std.proofs.Common.{rules}
use borrow.Author.Tests.{tests}
use Rattle.script_lines.proofs.words.is_name_byte.Goals as goal

pub returns-then-is_ascii_digit : goal.returns-then-is_ascii_digit
returns-then-is_ascii_digit c = search (tests, rules)

pub returns-else-is_ascii_digit : goal.returns-else-is_ascii_digit
returns-else-is_ascii_digit c = search (tests, rules)
