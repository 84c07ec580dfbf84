use Rattle.lwp_live.proofs.Told.{answers_are_replies}
use Rattle.lwp_live.proofs.laws.answers_are_replies.Goals as goal

pub returns : goal.returns
returns c = answers_are_replies
