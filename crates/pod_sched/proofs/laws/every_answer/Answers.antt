use Rattle.pod_sched.proofs.MachineLaws.{alike}
use Rattle.pod_sched.proofs.laws.every_answer.Goals as goal

pub returns : goal.returns
returns c = alike
