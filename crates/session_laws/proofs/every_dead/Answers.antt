use Rattle.session_laws.proofs.DeathLaws.{the_dead_stay_forgotten}
use Rattle.session_laws.proofs.every_dead.Goals as goal

pub returns : goal.returns
returns g c = the_dead_stay_forgotten g.row.B.Denot
