use Rattle.session_laws.proofs.StepByStep.{sessions_are_stepwise}
use Rattle.session_laws.proofs.every_step.Goals as goal

pub returns : goal.returns
returns g c = sessions_are_stepwise g.row.B.Denot
