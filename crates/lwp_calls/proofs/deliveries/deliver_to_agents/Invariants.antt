use Rattle.death_cleanup.specs.View.{state_of}
use Rattle.lwp_calls.proofs.Delivering.{Delivering}
use Rattle.lwp_calls.proofs.deliveries.deliver_to_agents.Given as goal
use Rattle.pod_laws.proofs.Delivery.{idle_agents}
use Rattle.std.proofs.Common.{length}

abbrev pub invariant-loop-agent : goal.invariant-loop-agent
invariant-loop-agent l = Delivering l.event l.text l.fn.parts l.fn.effects l.count l.parts l.effects

abbrev pub decreases-loop-agent : goal.decreases-loop-agent
decreases-loop-agent l = length (idle_agents l.event (state_of l.parts))
