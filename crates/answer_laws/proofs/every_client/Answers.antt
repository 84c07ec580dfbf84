use Rattle.answer_laws.proofs.Naming.{in_every_session}
use Rattle.answer_laws.proofs.every_client.Goals as goal

pub returns : goal.returns
returns g c = in_every_session g.row.B.Denot
