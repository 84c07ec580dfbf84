use Rattle.session_laws.proofs.ExitLaws.{each_set_exit_once}
use Rattle.session_laws.proofs.every_exit_set.Goals as goal

pub returns : goal.returns
returns g c = each_set_exit_once g.row.B.Denot
