use Rattle.conditions.proofs.Machine.{waited_agrees}
use Rattle.conditions.specs.ConditionTable as table
use Rattle.death_cleanup.proofs.Outcomes.{answers_refused}
use Rattle.death_cleanup.specs.View.{state_of}
use Rattle.lwp_calls.proofs.Conditions.{destroy-absent, destroy-idle, destroy-waited, there}
use Rattle.lwp_calls.proofs.Made.{Answers-is}
use Rattle.lwp_calls.proofs.Tables.{InStep-conditions}
use Rattle.lwp_calls.proofs.condition_calls.destroy.Goals as goal
use Rattle.lwp_types.specs.declared.call.LwpErr.TheVariants as error
use Rattle.std.proofs.Common.{[], false, refl, sym, true, ◌∙◌}

pub returns-then-is_none : goal.returns-then-is_none
returns-then-is_none c = answers_refused c.args.parts.now [] _ error.NonExist c.requires.step (destroy-absent (state_of c.args.parts.now)
    c.args.cond (there c.args.parts.now.conds.conditions c.args.cond c.monitor_of.result false c.monitor_of.ensures c.if-is_none.ensures))

pub returns-then-waited : goal.returns-then-waited
returns-then-waited c = answers_refused c.args.parts.now [] _ error.InUse c.requires.step
    (destroy-waited (state_of c.args.parts.now) c.args.cond
    (there c.args.parts.now.conds.conditions c.args.cond c.monitor_of.result true c.monitor_of.ensures c.if-is_none.ensures)
    (waited_agrees c.args.parts.now.conds (state_of c.args.parts.now) c.args.cond ∙ sym c.if-waited.ensures))

pub returns : goal.returns
returns c = rw c.destroy.ensures (Answers-is
    (destroy-idle (state_of c.args.parts.now) c.args.cond
    (there c.args.parts.now.conds.conditions c.args.cond c.monitor_of.result true c.monitor_of.ensures c.if-is_none.ensures)
    (waited_agrees c.args.parts.now.conds (state_of c.args.parts.now) c.args.cond ∙ sym c.if-waited.ensures))
    (InStep-conditions c.args.parts.now c.requires.step (table.after_destroy c.args.parts.now.conds c.args.cond) c.requires.step.ranked.waits refl refl)
    refl)
