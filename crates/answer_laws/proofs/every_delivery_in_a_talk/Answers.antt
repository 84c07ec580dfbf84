use Rattle.answer_laws.proofs.TalkTexts.{deliveries_are_events}
use Rattle.answer_laws.proofs.every_delivery_in_a_talk.Goals as goal

pub returns : goal.returns
returns c = deliveries_are_events
