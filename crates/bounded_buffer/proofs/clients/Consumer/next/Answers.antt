use Rattle.bounded_buffer.proofs.clients.Consumer.next.Goals as goal
use Rattle.std.proofs.Common.{rules}

pub returns-in-Reply : goal.returns-in-Reply
returns-in-Reply c = search rules
