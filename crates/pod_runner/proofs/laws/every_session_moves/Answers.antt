use Rattle.pod_runner.proofs.Moving.{sessions_are_moves}
use Rattle.pod_runner.proofs.laws.every_session_moves.Goals as goal

pub returns : goal.returns
returns g c = sessions_are_moves g.row.B.Denot
