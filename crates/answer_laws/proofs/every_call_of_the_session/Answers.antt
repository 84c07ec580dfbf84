use Rattle.answer_laws.proofs.SessionSteps.{sessions_calls_are_events}
use Rattle.answer_laws.proofs.every_call_of_the_session.Goals as goal

pub returns : goal.returns
returns c = sessions_calls_are_events
