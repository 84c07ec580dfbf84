use Rattle.answer_laws.proofs.Writing.{owners_alone_reply}
use Rattle.answer_laws.proofs.every_reply_to_an_agent.Goals as goal

pub returns : goal.returns
returns g c = owners_alone_reply g.row.B.Denot
