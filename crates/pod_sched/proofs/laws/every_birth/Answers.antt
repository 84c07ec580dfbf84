use Rattle.pod_sched.proofs.MachineLaws.{births_shown}
use Rattle.pod_sched.proofs.laws.every_birth.Goals as goal

pub returns : goal.returns
returns c = births_shown
