use Rattle.script_body.proofs.thread_body.ThreadBodyPolled.poll.Goals as goal
use Rattle.std.proofs.Common.{rules}

pub returns-in-Storing : goal.returns-in-Storing
returns-in-Storing c = search rules
