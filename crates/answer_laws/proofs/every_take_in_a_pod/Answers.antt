use Rattle.answer_laws.proofs.Events.{takes_leave_it}
use Rattle.answer_laws.proofs.every_take_in_a_pod.Goals as goal

pub returns : goal.returns
returns c = takes_leave_it
