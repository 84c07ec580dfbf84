use Rattle.deadlock_laws.proofs.Staying.{the_blocked_stay}
use Rattle.deadlock_laws.proofs.every_blocked.Goals as goal

pub returns : goal.returns
returns c = the_blocked_stay
