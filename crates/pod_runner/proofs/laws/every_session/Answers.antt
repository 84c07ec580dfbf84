use Rattle.pod_runner.proofs.Lawfuls.{sessions_are_lawful}
use Rattle.pod_runner.proofs.laws.every_session.Goals as goal

pub returns : goal.returns
returns g c = sessions_are_lawful g.row.B.Denot
