use Rattle.script_body.proofs.frame.Frame.set_handler.Goals as goal
use Rattle.std.proofs.Common.{rules}

pub returns : goal.returns
returns c = search rules
