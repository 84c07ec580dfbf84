use Rattle.bounded_buffer.proofs.buffer.Buffer.reply_or_rest.Goals as goal
use Rattle.std.proofs.Common.{rules}

pub returns-in-Some : goal.returns-in-Some
returns-in-Some c = search rules
