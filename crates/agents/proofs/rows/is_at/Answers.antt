use Rattle.agents.proofs.rows.is_at.Goals as goal
use Rattle.std.proofs.Common.{rules}

pub returns-in-Some : goal.returns-in-Some
returns-in-Some c = search rules
