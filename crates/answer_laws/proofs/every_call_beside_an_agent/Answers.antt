use Rattle.answer_laws.proofs.AgentSights.{others_leave_agents}
use Rattle.answer_laws.proofs.every_call_beside_an_agent.Goals as goal

pub returns : goal.returns
returns c = others_leave_agents
