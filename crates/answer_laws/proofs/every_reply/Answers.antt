use Rattle.answer_laws.proofs.Replies.{replies_are_the_answers}
use Rattle.answer_laws.proofs.every_reply.Goals as goal

pub returns : goal.returns
returns c = replies_are_the_answers
