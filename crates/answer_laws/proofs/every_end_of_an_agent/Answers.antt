use Rattle.answer_laws.proofs.AgentSights.{destroyed_agents_are_gone}
use Rattle.answer_laws.proofs.every_end_of_an_agent.Goals as goal

pub returns : goal.returns
returns c = destroyed_agents_are_gone
