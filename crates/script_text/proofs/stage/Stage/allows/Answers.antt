use Rattle.std.proofs.Common.{rules}
use borrow.Author.Tests.{tests}
use Rattle.script_text.proofs.stage.Stage.allows.Goals as goal

pub returns-in-Posts : goal.returns-in-Posts
returns-in-Posts c = search (tests, rules)
