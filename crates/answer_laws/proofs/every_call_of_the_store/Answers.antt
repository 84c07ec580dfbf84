use Rattle.answer_laws.proofs.StoreSteps.{stores_calls_are_events}
use Rattle.answer_laws.proofs.every_call_of_the_store.Goals as goal

pub returns : goal.returns
returns c = stores_calls_are_events
