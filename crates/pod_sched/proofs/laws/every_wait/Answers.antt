use Rattle.pod_sched.proofs.MachineLaws.{waits_shown}
use Rattle.pod_sched.proofs.laws.every_wait.Goals as goal

pub returns : goal.returns
returns c = waits_shown
