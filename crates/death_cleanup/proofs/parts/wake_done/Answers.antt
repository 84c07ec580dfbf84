use Rattle.death_cleanup.proofs.Keeping.{came_waked}
use Rattle.death_cleanup.proofs.parts.wake_done.Goals as goal
use Rattle.death_cleanup.specs.declared.parts.Parts.{Parts}
use Rattle.lwp_types.specs.Case.{answer_by}
use Rattle.std.proofs.Common.{ap}

pub returns-clause-came : goal.returns-clause-came
returns-clause-came c = rw (c.unblock.ensures, c.done.ensures)
    (came_waked c.args.parts.now c.requires.step c.args.tid (answer_by c.args.done) c.args.effects.now c.requires.waits)

pub returns-clause-named : goal.returns-clause-named
returns-clause-named c = ap (λ (parts : Parts). parts.named) c.unblock.ensures
