use Rattle.answer_laws.proofs.AgentTexts.{deliveries_pass_others_by}
use Rattle.answer_laws.proofs.every_delivery_beside_an_agent.Goals as goal

pub returns : goal.returns
returns c = deliveries_pass_others_by
