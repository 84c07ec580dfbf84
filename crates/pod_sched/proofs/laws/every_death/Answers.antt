use Rattle.pod_sched.proofs.MachineLaws.{deaths_shown}
use Rattle.pod_sched.proofs.laws.every_death.Goals as goal

pub returns : goal.returns
returns c = deaths_shown
