use Rattle.answer_laws.proofs.TalkSteps.{others_calls_are_events}
use Rattle.answer_laws.proofs.every_call_beside_a_talk.Goals as goal

pub returns : goal.returns
returns c = others_calls_are_events
