use Rattle.answer_laws.proofs.Down.{sends_to_the_gone_are_refused}
use Rattle.answer_laws.proofs.every_send_to_a_lost_store.Goals as goal

pub returns : goal.returns
returns g c = sends_to_the_gone_are_refused g.row.B.Denot
