use Rattle.bounded_buffer.proofs.buffer.Buffer.keep.Goals as goal
use Rattle.std.proofs.Common.{rules}

pub returns-then-len-self : goal.returns-then-len-self
returns-then-len-self c = search rules
