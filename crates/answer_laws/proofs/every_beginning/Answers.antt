use Rattle.answer_laws.proofs.Meetings.{clients_are_answered_in_turn}
use Rattle.answer_laws.proofs.every_beginning.Goals as goal

pub returns : goal.returns
returns g c = clients_are_answered_in_turn g.row.B.Denot
