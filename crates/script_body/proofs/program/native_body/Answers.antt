use Rattle.script_body.proofs.program.native_body.Goals as goal
use Rattle.std.proofs.Common.{rules}

pub returns-in-Session : goal.returns-in-Session
returns-in-Session c = search rules
