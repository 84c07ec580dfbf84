use Rattle.answer_laws.proofs.Meetings.{later_clients_are_answered_in_turn}
use Rattle.answer_laws.proofs.every_later_beginning.Goals as goal

pub returns : goal.returns
returns g c = later_clients_are_answered_in_turn g.row.B.Denot
