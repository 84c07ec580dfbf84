use Rattle.session_laws.proofs.ExitLaws.{each_exit_has_its_fate}
use Rattle.session_laws.proofs.every_fate.Goals as goal

pub returns : goal.returns
returns g c = each_exit_has_its_fate g.row.B.Denot
