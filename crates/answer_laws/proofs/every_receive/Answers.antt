use Rattle.answer_laws.proofs.Replies.{receives_are_the_letters}
use Rattle.answer_laws.proofs.every_receive.Goals as goal

pub returns : goal.returns
returns c = receives_are_the_letters
