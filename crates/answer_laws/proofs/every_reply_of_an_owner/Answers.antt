use Rattle.answer_laws.proofs.Owners.{owners_reply}
use Rattle.answer_laws.proofs.every_reply_of_an_owner.Goals as goal

pub returns : goal.returns
returns c = owners_reply
