use Rattle.pod_sched.proofs.MachineLaws.{flags_shown}
use Rattle.pod_sched.proofs.laws.every_flag.Goals as goal

pub returns : goal.returns
returns c = flags_shown
