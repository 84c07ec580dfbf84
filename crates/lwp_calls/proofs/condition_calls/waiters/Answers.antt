use Rattle.conditions.proofs.Machine.{waiters_agree}
use Rattle.death_cleanup.proofs.Outcomes.{answers_refused}
use Rattle.death_cleanup.specs.View.{state_of}
use Rattle.lwp_calls.proofs.Conditions.{there, waiters-absent, waiters-live}
use Rattle.lwp_calls.proofs.Made.{Answers-is, told-alone}
use Rattle.lwp_calls.proofs.condition_calls.waiters.Goals as goal
use Rattle.lwp_types.specs.Case.{list_case}
use Rattle.lwp_types.specs.declared.call.IdKind.TheVariants as kind
use Rattle.lwp_types.specs.declared.call.LwpErr.TheVariants as error
use Rattle.std.proofs.Common.{[], ap, false, refl, true, ◌∙◌}

pub returns-then-is_none-clause-ok : goal.returns-then-is_none-clause-ok
returns-then-is_none-clause-ok c = told-alone
    (answers_refused c.args.parts.now [] _ error.NonExist c.requires.step (waiters-absent (state_of c.args.parts.now) c.args.cond
    (there c.args.parts.now.conds.conditions c.args.cond c.monitor_of.result false c.monitor_of.ensures c.if-is_none.ensures)))
    c.args.tid c.done.ensures

pub returns-clause-ok : goal.returns-clause-ok
returns-clause-ok c = told-alone (Answers-is
    (waiters-live (state_of c.args.parts.now) c.args.cond
    (there c.args.parts.now.conds.conditions c.args.cond c.monitor_of.result true c.monitor_of.ensures c.if-is_none.ensures)
    ∙ ap (list_case (state_of c.args.parts.now) kind.Thread) (waiters_agree c.args.parts.now.conds (state_of c.args.parts.now) c.args.cond))
    c.requires.step refl) c.args.tid (rw c.in_ok-list.ensures at c.tell_ids.ensures)
