use Rattle.deadlock_laws.proofs.Breaches.{only_breaches_break}
use Rattle.deadlock_laws.proofs.every_breach.Goals as goal

pub returns : goal.returns
returns c = only_breaches_break
