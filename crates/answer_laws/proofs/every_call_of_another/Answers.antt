use Rattle.answer_laws.proofs.Others.{others_leave_it}
use Rattle.answer_laws.proofs.every_call_of_another.Goals as goal

pub returns : goal.returns
returns c = others_leave_it
