use Rattle.death_cleanup.proofs.Keeping.{came_waked}
use Rattle.death_cleanup.proofs.parts.wake_replied.Goals as goal
use Rattle.lwp_types.specs.declared.call.Answer.TheVariants as answer

pub returns : goal.returns
returns c = record {
  came = rw (c.unblock.ensures, c.replied.ensures)
      (came_waked c.args.parts.now c.requires.step c.args.tid (answer.Reply c.args.text.now) c.args.effects.now c.requires.waits);
}
