use Rattle.bounded_buffer.proofs.market.MarketProgramActor.body_of.Goals as goal
use Rattle.std.proofs.Common.{rules}

pub returns : goal.returns
returns c = search rules
