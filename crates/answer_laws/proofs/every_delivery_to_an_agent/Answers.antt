use Rattle.answer_laws.proofs.AgentTexts.{deliveries_reach_agents}
use Rattle.answer_laws.proofs.every_delivery_to_an_agent.Goals as goal

pub returns : goal.returns
returns c = deliveries_reach_agents
