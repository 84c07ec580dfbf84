use Rattle.pod_events.proofs.TrapAgents.{traps_have_no_agents}
use Rattle.pod_events.proofs.laws.every_trapped_event.Goals as goal

pub returns : goal.returns
returns c = traps_have_no_agents
