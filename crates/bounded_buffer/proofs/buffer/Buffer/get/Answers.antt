use Rattle.bounded_buffer.proofs.buffer.Buffer.get.Goals as goal
use Rattle.std.proofs.Common.{rules}

pub returns-in_ok-hand-in-Some : goal.returns-in_ok-hand-in-Some
returns-in_ok-hand-in-Some c = search rules
