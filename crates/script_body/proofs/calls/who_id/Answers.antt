use Rattle.script_body.proofs.calls.who_id.Goals as goal
use Rattle.std.proofs.Common.{rules}

pub returns-in-Me : goal.returns-in-Me
returns-in-Me c = search rules
