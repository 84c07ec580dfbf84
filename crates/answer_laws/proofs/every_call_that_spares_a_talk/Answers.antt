use Rattle.answer_laws.proofs.PodSteps.{living_calls_are_events}
use Rattle.answer_laws.proofs.every_call_that_spares_a_talk.Goals as goal

pub returns : goal.returns
returns c = living_calls_are_events
