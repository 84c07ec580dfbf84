use Rattle.answer_laws.proofs.Replies.{readers_leave_the_rest}
use Rattle.answer_laws.proofs.every_call_of_a_reader.Goals as goal

pub returns : goal.returns
returns c = readers_leave_the_rest
