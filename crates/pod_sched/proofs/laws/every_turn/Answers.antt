use Rattle.pod_sched.proofs.MachineLaws.{turns_shown}
use Rattle.pod_sched.proofs.laws.every_turn.Goals as goal

pub returns : goal.returns
returns c = turns_shown
