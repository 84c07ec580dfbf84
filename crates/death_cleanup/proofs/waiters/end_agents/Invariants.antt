use Rattle.death_cleanup.proofs.AgentEnds.{list}
use Rattle.death_cleanup.proofs.Draining.{Draining}
use Rattle.death_cleanup.proofs.waiters.end_agents.Given as goal
use Rattle.death_cleanup.specs.View.{state_of}
use Rattle.lwp_types.specs.Agents.{end_agent}
use Rattle.pod_laws.proofs.DeathLoops.{Unowning}
use Rattle.std.proofs.Common.{length}

abbrev pub invariant-loop-agent : goal.invariant-loop-agent
invariant-loop-agent l = Draining (Unowning l.tid) (list l.tid) end_agent 0 l.fn.parts l.fn.effects l.parts l.effects

abbrev pub decreases-loop-agent : goal.decreases-loop-agent
decreases-loop-agent l = length (list l.tid (state_of l.parts))
