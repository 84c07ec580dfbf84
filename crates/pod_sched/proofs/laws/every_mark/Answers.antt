use Rattle.pod_sched.proofs.MachineLaws.{marks_hidden}
use Rattle.pod_sched.proofs.laws.every_mark.Goals as goal

pub returns : goal.returns
returns c = marks_hidden
