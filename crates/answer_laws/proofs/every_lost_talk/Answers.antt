use Rattle.answer_laws.proofs.LostTalks.{lost_talks_are_answers}
use Rattle.answer_laws.proofs.every_lost_talk.Goals as goal

pub returns : goal.returns
returns c = lost_talks_are_answers
