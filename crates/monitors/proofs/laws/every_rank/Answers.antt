use Rattle.monitors.proofs.Machine.{ranks_last}
use Rattle.monitors.proofs.laws.every_rank.Goals as goal

pub returns : goal.returns
returns c = ranks_last
