use Rattle.answer_laws.proofs.Owners.{owners_receive}
use Rattle.answer_laws.proofs.every_receive_of_an_owner.Goals as goal

pub returns : goal.returns
returns c = owners_receive
