use Rattle.answer_laws.proofs.Wholes.{in_whole_sessions}
use Rattle.answer_laws.proofs.every_session_of_moves.Goals as goal

pub returns : goal.returns
returns g c = in_whole_sessions g.row.B.Denot
