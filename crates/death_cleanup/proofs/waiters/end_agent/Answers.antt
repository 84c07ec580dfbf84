use Rattle.death_cleanup.proofs.AgentEnds.{came_ended, unlisted_room, unlisted_step}
use Rattle.death_cleanup.proofs.waiters.end_agent.Goals as goal

pub clear_agent-requires-clause-step : goal.clear_agent-requires-clause-step
clear_agent-requires-clause-step c = rw c.destroy.ensures (unlisted_step c.args.parts.now c.args.agent c.requires.lawful.step)

pub clear_agent-requires-clause-room : goal.clear_agent-requires-clause-room
clear_agent-requires-clause-room c = rw c.destroy.ensures (unlisted_room c.args.parts.now c.args.agent c.args.effects.now c.requires.room)

pub returns : goal.returns
returns c = record {
  came = came_ended c.args.parts.now c.args.agent c.clear_agent.new.parts c.args.effects.now c.clear_agent.new.effects
      (rw c.destroy.ensures at c.clear_agent.ensures.came);
}
