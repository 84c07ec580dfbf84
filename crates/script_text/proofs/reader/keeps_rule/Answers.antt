use Rattle.std.proofs.Common.{rules}
use borrow.Author.Tests.{tests}
use Rattle.script_text.proofs.reader.keeps_rule.Goals as goal

pub returns-in-Post : goal.returns-in-Post
returns-in-Post c = search (tests, rules)
