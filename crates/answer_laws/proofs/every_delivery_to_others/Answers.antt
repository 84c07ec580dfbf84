use Rattle.answer_laws.proofs.Others.{deliveries_leave_it}
use Rattle.answer_laws.proofs.every_delivery_to_others.Goals as goal

pub returns : goal.returns
returns c = deliveries_leave_it
