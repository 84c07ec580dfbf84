use Rattle.answer_laws.proofs.Down.{refused_sessions_say_down}
use Rattle.answer_laws.proofs.every_refused_session.Goals as goal

pub returns : goal.returns
returns g c = refused_sessions_say_down g.row.B.Denot
