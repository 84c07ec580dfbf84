use Rattle.death_cleanup.proofs.Quiet.{withdrawn-idle}
use Rattle.death_cleanup.proofs.Withdrawals.{InStep-withdrawn, is-known, withdrawn-is}
use Rattle.death_cleanup.proofs.death.withdraw.Goals as goal
use Rattle.death_cleanup.specs.Ties.{InStep}
use Rattle.death_cleanup.specs.View.{state_of}
use Rattle.std.proofs.Common.{ap, subst, sym, ◌∙◌}

pub prio_of-parts-requires : goal.prio_of-parts-requires
prio_of-parts-requires c = is-known c.args.parts.now c.args.tid c.requires.lawful.step.tied c.requires.alone c.requires.lives

pub leave-requires : goal.leave-requires
leave-requires c = is-known c.args.parts.now c.args.tid c.requires.lawful.step.tied c.requires.alone c.requires.lives

pub returns-then-waits-clause-after : goal.returns-then-waits-clause-after
returns-then-waits-clause-after c = rw
    (c.prio_of-parts.ensures, c.leave.ensures, c.set_block.ensures, c.forget.ensures, c.forget-then-waits.ensures, c.forget-then-waits-2.ensures)
    (withdrawn-is c.args.parts.now c.args.tid c.requires.lawful.step.tied c.requires.alone)

pub returns-then-waits-clause-step : goal.returns-then-waits-clause-step
returns-then-waits-clause-step c = rw
    (c.prio_of-parts.ensures, c.leave.ensures, c.set_block.ensures, c.forget.ensures, c.forget-then-waits.ensures, c.forget-then-waits-2.ensures)
    (InStep-withdrawn c.args.parts.now c.args.tid c.requires.lawful.step.tied c.requires.alone c.requires.lawful.step)

pub returns-else-waits-clause-after : goal.returns-else-waits-clause-after
returns-else-waits-clause-after c =
    let idle = withdrawn-idle c.args.parts.now c.args.tid c.requires.lawful c.requires.lives (sym c.blocked-waits.ensures ∙ c.if-waits.false) in
    rw (c.prio_of-parts.ensures, c.leave.ensures, c.set_block.ensures)
    (ap state_of (sym idle) ∙ withdrawn-is c.args.parts.now c.args.tid c.requires.lawful.step.tied c.requires.alone)

pub returns-else-waits-clause-step : goal.returns-else-waits-clause-step
returns-else-waits-clause-step c =
    let idle = withdrawn-idle c.args.parts.now c.args.tid c.requires.lawful c.requires.lives (sym c.blocked-waits.ensures ∙ c.if-waits.false) in
    rw (c.prio_of-parts.ensures, c.leave.ensures, c.set_block.ensures)
    (subst InStep idle (InStep-withdrawn c.args.parts.now c.args.tid c.requires.lawful.step.tied c.requires.alone c.requires.lawful.step))
