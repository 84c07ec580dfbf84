use Rattle.answer_laws.proofs.OwnSteps.{others_reply_nothing}
use Rattle.answer_laws.proofs.every_reply_of_others.Goals as goal

pub returns : goal.returns
returns c = others_reply_nothing
