use Rattle.conditions.proofs.Machine.{has_waits_agrees}
use Rattle.conditions.specs.ConditionTable as cond
use Rattle.death_cleanup.proofs.Locking.{InStep-monitors}
use Rattle.death_cleanup.proofs.Outcomes.{answers_refused}
use Rattle.death_cleanup.specs.View.{state_of}
use Rattle.lwp_calls.proofs.Entering.{destroy-absent, destroy-held, destroy-idle, destroy-waited, lock-gone, lock-some, unwanted}
use Rattle.lwp_calls.proofs.Made.{Answers-is}
use Rattle.lwp_calls.proofs.Tables.{InStep-conditions}
use Rattle.lwp_calls.proofs.monitor_calls.destroy.Goals as goal
use Rattle.lwp_types.specs.MonitorRelease.{lock_of}
use Rattle.lwp_types.specs.declared.call.LwpErr.TheVariants as error
use Rattle.monitors.specs.MonitorTable as mon
use Rattle.std.proofs.Common.{[], false, refl, sym, true, ◌∙◌}

pub returns-then-not-is_live : goal.returns-then-not-is_live
returns-then-not-is_live c = answers_refused c.args.parts.now [] _ error.NonExist c.requires.lawful.step
    (destroy-absent (state_of c.args.parts.now) c.args.mon (sym c.if-not-is_live.ensures))

pub returns-then-is_some : goal.returns-then-is_some
returns-then-is_some c = answers_refused c.args.parts.now [] _ error.InUse c.requires.lawful.step
    (destroy-held (state_of c.args.parts.now) c.args.mon (sym c.if-not-is_live.ensures)
    (lock-some (lock_of c.args.parts.now.mons.locks c.args.mon) true c.owner.result c.owner.ensures (sym c.if-is_some.ensures)))

pub returns-then-waited_of : goal.returns-then-waited_of
returns-then-waited_of c = answers_refused c.args.parts.now [] _ error.InUse c.requires.lawful.step
    (destroy-waited (state_of c.args.parts.now) c.args.mon (sym c.if-not-is_live.ensures)
    (lock-some (lock_of c.args.parts.now.mons.locks c.args.mon) false c.owner.result c.owner.ensures (sym c.if-is_some.ensures))
    (has_waits_agrees c.args.parts.now.conds (state_of c.args.parts.now) c.args.mon ∙ sym c.if-waited_of.ensures))

pub destroy-requires-clause-unwanted : goal.destroy-requires-clause-unwanted
destroy-requires-clause-unwanted c = unwanted c.args.parts.now c.requires.lawful c.args.mon
    (lock-gone _ (lock-some (lock_of c.args.parts.now.mons.locks c.args.mon) false c.owner.result c.owner.ensures (sym c.if-is_some.ensures)))

pub returns : goal.returns
returns c = rw (c.destroy.ensures, c.destroy_of.ensures) (Answers-is
    (destroy-idle (state_of c.args.parts.now) c.args.mon (sym c.if-not-is_live.ensures)
    (lock-some (lock_of c.args.parts.now.mons.locks c.args.mon) false c.owner.result c.owner.ensures (sym c.if-is_some.ensures))
    (has_waits_agrees c.args.parts.now.conds (state_of c.args.parts.now) c.args.mon ∙ sym c.if-waited_of.ensures))
    (InStep-conditions (record c.args.parts.now { mons = mon.after_destroy c.args.parts.now.mons c.args.mon })
    (InStep-monitors c.args.parts.now c.requires.lawful.step (mon.after_destroy c.args.parts.now.mons c.args.mon)
    c.requires.lawful.step.ranked.requests refl refl)
    (cond.after_destroy_of c.args.parts.now.conds c.args.mon) c.requires.lawful.step.ranked.waits refl refl)
    refl)
