use Rattle.death_cleanup.proofs.AgentEnds.{came_over, over_room}
use Rattle.death_cleanup.proofs.waiters.clear_agent.Goals as goal
use Rattle.death_cleanup.specs.View.{state_of}

pub dismiss-requires-clause-room : goal.dismiss-requires-clause-room
dismiss-requires-clause-room c = over_room c.args.agent (state_of c.args.parts.now) c.args.effects.now c.requires.room

pub returns : goal.returns
returns c = record {
  came = rw (c.forget.ensures, c.remove.ensures.rest, c.agent.view_is)
      (came_over c.args.agent c.args.parts.now c.dismiss.new.parts c.args.effects.now c.dismiss.new.effects c.requires.no_thread c.dismiss.ensures.came);
}
