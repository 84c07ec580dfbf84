use Rattle.answer_laws.proofs.Openings.{sessions_are_reached}
use Rattle.answer_laws.proofs.every_session_reached.Goals as goal

pub returns : goal.returns
returns g c = sessions_are_reached g.row.B.Denot
