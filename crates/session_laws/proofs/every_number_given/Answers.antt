use Rattle.session_laws.proofs.ExitLaws.{each_number_is_given_once}
use Rattle.session_laws.proofs.every_number_given.Goals as goal

pub returns : goal.returns
returns g c = each_number_is_given_once g.row.B.Denot
