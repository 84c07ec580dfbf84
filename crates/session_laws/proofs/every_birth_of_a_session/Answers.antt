use Rattle.session_laws.proofs.Numbering.{births_are_limited}
use Rattle.session_laws.proofs.every_birth_of_a_session.Goals as goal

pub returns : goal.returns
returns g c = births_are_limited g.row.B.Denot
