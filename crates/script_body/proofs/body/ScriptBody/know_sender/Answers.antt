use Rattle.script_body.proofs.body.ScriptBody.know_sender.Goals as goal
use Rattle.std.proofs.Common.{rules}

pub returns-in-Letter : goal.returns-in-Letter
returns-in-Letter c = search rules
