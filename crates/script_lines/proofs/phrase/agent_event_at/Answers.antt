use Rattle.std.proofs.Common.{rules}
use borrow.Author.Tests.{tests}
use Rattle.script_lines.proofs.phrase.agent_event_at.Goals as goal

pub returns-in-Some : goal.returns-in-Some
returns-in-Some c = let h = c.in-Some.ensures in search (tests, rules)
