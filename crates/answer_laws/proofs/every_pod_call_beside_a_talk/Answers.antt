use Rattle.answer_laws.proofs.PodSteps.{pods_calls_are_events}
use Rattle.answer_laws.proofs.every_pod_call_beside_a_talk.Goals as goal

pub returns : goal.returns
returns c = pods_calls_are_events
