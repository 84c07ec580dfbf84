use Rattle.answer_laws.proofs.TalkLaws.{talks_are_answers}
use Rattle.answer_laws.proofs.every_talk.Goals as goal

pub returns : goal.returns
returns c = talks_are_answers
