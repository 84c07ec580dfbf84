use Rattle.death_cleanup.proofs.Burials.{InStep-buried, buried-is}
use Rattle.death_cleanup.proofs.death.bury.Goals as goal

pub returns-clause-after : goal.returns-clause-after
returns-clause-after c = rw (c.remove.ensures.rest, c.tid.view_is) (buried-is c.args.parts.now c.args.tid)

pub returns-clause-step : goal.returns-clause-step
returns-clause-step c = rw (c.remove.ensures.rest, c.tid.view_is)
    (InStep-buried c.args.parts.now c.args.tid c.requires.forgotten c.requires.step c.requires.dying)
