use Rattle.death_cleanup.proofs.AgentEnds.{agent_fewer, agent_no_thread, agent_on, agent_room, agents_over, lighter_step, lighter_threads, list}
use Rattle.death_cleanup.proofs.Draining.{starts}
use Rattle.death_cleanup.proofs.waiters.end_agents.Goals as goal
use Rattle.lwp_types.specs.Agents.{end_agent}
use Rattle.pod_laws.proofs.DeathLoops.{Unowning}
use Rattle.std.proofs.Common.{sym, ◌∙◌}

pub loop-agent-init : goal.loop-agent-init
loop-agent-init c = starts (Unowning c.args.tid) (list c.args.tid) end_agent 0 c.args.parts.now c.args.effects.now c.requires.unowning
    c.requires.step c.requires.room

pub clear_agent-requires-clause-threads : goal.clear_agent-requires-clause-threads
clear_agent-requires-clause-threads c = rw c.forget_owner.ensures.after
    (lighter_threads c.args.tid c.args.parts.now c.args.effects.now c.loop-agent.parts c.loop-agent.effects c.loop-agent.invariant)

pub clear_agent-requires-clause-step : goal.clear_agent-requires-clause-step
clear_agent-requires-clause-step c =
    rw c.forget_owner.ensures.after (lighter_step c.args.tid c.args.parts.now c.args.effects.now c.loop-agent.parts c.loop-agent.effects c.loop-agent.invariant)

pub clear_agent-requires-clause-no_thread : goal.clear_agent-requires-clause-no_thread
clear_agent-requires-clause-no_thread c = agent_no_thread c.args.tid c.args.parts.now c.args.effects.now c.loop-agent.parts
    c.loop-agent.effects c.loop-agent.invariant c.in-Some.agent (sym c.forget_owner.ensures.value ∙ c.in-Some.is)

pub clear_agent-requires-clause-room : goal.clear_agent-requires-clause-room
clear_agent-requires-clause-room c = rw c.forget_owner.ensures.after (agent_room c.args.tid c.args.parts.now c.args.effects.now
    c.loop-agent.parts c.loop-agent.effects c.loop-agent.invariant c.in-Some.agent (sym c.forget_owner.ensures.value ∙ c.in-Some.is))

pub loop-agent-smaller : goal.loop-agent-smaller
loop-agent-smaller c = agent_fewer c.args.tid c.args.parts.now c.args.effects.now c.loop-agent.parts c.loop-agent.effects
    c.loop-agent.invariant c.in-Some.agent (sym c.forget_owner.ensures.value ∙ c.in-Some.is) c.clear_agent.new.parts
    c.clear_agent.new.effects (rw c.forget_owner.ensures.after at c.clear_agent.ensures.came)

pub loop-agent-preserved : goal.loop-agent-preserved
loop-agent-preserved c = agent_on c.args.tid c.args.parts.now c.args.effects.now c.loop-agent.parts c.loop-agent.effects
    c.loop-agent.invariant c.in-Some.agent (sym c.forget_owner.ensures.value ∙ c.in-Some.is) c.clear_agent.new.parts
    c.clear_agent.new.effects (rw c.forget_owner.ensures.after at c.clear_agent.ensures.came)

pub returns : goal.returns
returns c = record {
  came = rw c.forget_owner.ensures.after (agents_over c.args.tid c.args.parts.now c.args.effects.now c.loop-agent.parts c.loop-agent.effects
      c.loop-agent.invariant (sym c.forget_owner.ensures.value ∙ c.in_default.is));
}
