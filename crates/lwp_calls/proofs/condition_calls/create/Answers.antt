use Rattle.death_cleanup.proofs.Outcomes.{answers_refused}
use Rattle.lwp_calls.proofs.Made.{Answers-is, told-alone}
use Rattle.lwp_calls.proofs.MonitorAndConditionBirths.{InStep-condition, condition-absent, condition-none, condition-some}
use Rattle.lwp_calls.proofs.condition_calls.create.Goals as goal
use Rattle.lwp_types.specs.declared.call.LwpErr.TheVariants as error
use Rattle.std.proofs.Common.{[], refl, sym, ◌∙◌}

pub returns-then-not-is_live-clause-ok : goal.returns-then-not-is_live-clause-ok
returns-then-not-is_live-clause-ok c = told-alone
    (answers_refused c.args.parts.now [] _ error.NonExist c.requires.step
    (condition-absent c.args.parts.now c.requires.step c.args.mon (sym c.if-not-is_live.ensures)))
    c.args.tid c.done.ensures

pub returns-in_default-clause-ok : goal.returns-in_default-clause-ok
returns-in_default-clause-ok c = rw c.in_ok-cond.ensures.ok (told-alone (Answers-is
    (condition-none c.args.parts.now c.requires.step c.args.mon (sym c.if-not-is_live.ensures) (sym c.in_default.is ∙ c.in_ok-cond.ensures.value))
    (InStep-condition c.args.parts.now c.requires.step c.args.mon) refl) c.args.tid c.done-in_default.ensures)

pub returns-clause-ok : goal.returns-clause-ok
returns-clause-ok c = rw c.in_ok-cond.ensures.ok (told-alone (Answers-is
    (condition-some c.args.parts.now c.requires.step c.args.mon (sym c.if-not-is_live.ensures) c.in-Some.cond (sym c.in-Some.is ∙ c.in_ok-cond.ensures.value))
    (InStep-condition c.args.parts.now c.requires.step c.args.mon) refl) c.args.tid c.answered.ensures)
