use Rattle.answer_laws.proofs.OwnSteps.{pods_sessions_calls_are_events}
use Rattle.answer_laws.proofs.every_call_of_the_session_in_a_pod.Goals as goal

pub returns : goal.returns
returns c = pods_sessions_calls_are_events
