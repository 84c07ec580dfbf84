use Rattle.conditions.proofs.Machine.{ranks_last}
use Rattle.conditions.proofs.laws.every_rank.Goals as goal

pub returns : goal.returns
returns c = ranks_last
