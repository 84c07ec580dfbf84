use Rattle.answer_laws.proofs.Replies.{each_has_one_letter}
use Rattle.answer_laws.proofs.every_sender.Goals as goal

pub returns : goal.returns
returns c = each_has_one_letter
