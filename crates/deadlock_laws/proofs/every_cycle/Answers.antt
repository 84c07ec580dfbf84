use Rattle.deadlock_laws.proofs.Lasting.{cycles_last}
use Rattle.deadlock_laws.proofs.every_cycle.Goals as goal

pub returns : goal.returns
returns c = cycles_last
