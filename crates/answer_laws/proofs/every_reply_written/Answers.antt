use Rattle.answer_laws.proofs.Writing.{replies_are_written}
use Rattle.answer_laws.proofs.every_reply_written.Goals as goal

pub returns : goal.returns
returns g c = replies_are_written g.row.B.Denot
