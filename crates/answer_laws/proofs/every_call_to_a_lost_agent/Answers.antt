use Rattle.answer_laws.proofs.Owners.{owners_of_none_are_refused}
use Rattle.answer_laws.proofs.every_call_to_a_lost_agent.Goals as goal

pub returns : goal.returns
returns c = owners_of_none_are_refused
