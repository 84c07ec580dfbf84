use Rattle.bounded_buffer.proofs.clients.Producer.next.Goals as goal
use Rattle.std.proofs.Common.{rules}

pub returns : goal.returns
returns c = search rules
