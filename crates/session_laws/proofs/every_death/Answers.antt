use Rattle.session_laws.proofs.DeathLaws.{each_dies_once}
use Rattle.session_laws.proofs.every_death.Goals as goal

pub returns : goal.returns
returns g c = each_dies_once g.row.B.Denot
