use Rattle.answer_laws.proofs.Owners.{sends_are_letters}
use Rattle.answer_laws.proofs.every_send.Goals as goal

pub returns : goal.returns
returns c = sends_are_letters
