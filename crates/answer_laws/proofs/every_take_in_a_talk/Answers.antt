use Rattle.answer_laws.proofs.PodSteps.{takes_are_events}
use Rattle.answer_laws.proofs.every_take_in_a_talk.Goals as goal

pub returns : goal.returns
returns c = takes_are_events
