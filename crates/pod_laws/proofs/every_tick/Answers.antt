use Rattle.pod_laws.proofs.Alarms.{ticks_answer_the_due}
use Rattle.pod_laws.proofs.every_tick.Goals as goal

pub returns : goal.returns
returns c = ticks_answer_the_due
