use Rattle.answer_laws.proofs.Events.{pods_leave_it}
use Rattle.answer_laws.proofs.every_call_in_a_pod.Goals as goal

pub returns : goal.returns
returns c = pods_leave_it
