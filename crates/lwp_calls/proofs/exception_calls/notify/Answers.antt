use Rattle.death_cleanup.proofs.Outcomes.{answers_quietly, answers_refused}
use Rattle.death_cleanup.specs.View.{state_of}
use Rattle.lwp_calls.proofs.Made.{told-alone}
use Rattle.lwp_calls.proofs.Stacks.{searching-bad, searching-none, searching-some}
use Rattle.lwp_calls.proofs.exception_calls.notify.Goals as goal
use Rattle.lwp_types.specs.Case.{value_case}
use Rattle.lwp_types.specs.Exits.{catch_case, exc_notify, excnotify_case_by}
use Rattle.lwp_types.specs.declared.call.LwpErr.TheVariants as error
use Rattle.std.proofs.Common.{[], ap, of_z, pos, refl, rules, sym, to_z, w64, ◌+ℤ◌, ◌+◌, ◌∙◌, ◌≡◌}

pub returns-then-is_no_pattern-clause-told : goal.returns-then-is_no_pattern-clause-told
returns-then-is_no_pattern-clause-told c = told-alone
    (answers_refused c.args.parts.now [] _ error.InvalidArg c.requires.lawful.step
    (searching-bad (state_of c.args.parts.now) c.args.tid c.args.pattern _ (sym c.if-is_no_pattern.ensures)))
    c.args.tid c.done.ensures

pub returns-in_default-clause-told : goal.returns-in_default-clause-told
returns-in_default-clause-told c = told-alone
    (answers_refused c.args.parts.now [] _ error.NonExist c.requires.lawful.step
    (searching-none (state_of c.args.parts.now) c.args.tid c.args.pattern _ (sym c.if-is_no_pattern.ensures) (sym c.found.ensures.value ∙ c.in_default.is)))
    c.args.tid c.done-in_default.ensures

pub returns-in-Give-clause-told : goal.returns-in-Give-clause-told
returns-in-Give-clause-told c =
    let same : to_z w64 (of_z w64 c.from-arg.result) ≡ pos c.in-Some.handler.arg = search rules in
    let is : exc_notify (state_of c.args.parts.now) c.args.tid c.args.pattern
    ≡ value_case (state_of c.args.parts.now) c.in-Some.handler.arg = searching-some (state_of c.args.parts.now) c.args.tid
    c.args.pattern _ (sym c.if-is_no_pattern.ensures) c.in-Some.handler (sym c.found.ensures.value ∙ c.in-Some.is)
    ∙ ap (excnotify_case_by (state_of c.args.parts.now) c.args.tid c.args.pattern c.in-Some.handler) c.in-Give.is in
    told-alone (answers_quietly c.args.parts.now c.args.parts.now [] _ _ c.requires.lawful.step refl is) c.args.tid (rw same at c.done-in-Give.ensures)

pub returns-in-Sum-clause-told : goal.returns-in-Sum-clause-told
returns-in-Sum-clause-told c =
    let is : exc_notify (state_of c.args.parts.now) c.args.tid c.args.pattern
    ≡ value_case (state_of c.args.parts.now) (c.in-Some.handler.arg + c.args.pattern) = searching-some (state_of c.args.parts.now)
    c.args.tid c.args.pattern _ (sym c.if-is_no_pattern.ensures) c.in-Some.handler (sym c.found.ensures.value ∙ c.in-Some.is)
    ∙ ap (excnotify_case_by (state_of c.args.parts.now) c.args.tid c.args.pattern c.in-Some.handler) c.in-Sum.is in
    let same : to_z w64 (of_z w64 (to_z w64 (of_z w64 c.from-arg.result) +ℤ to_z w64 (of_z w64 c.from.result)))
    ≡ pos (c.in-Some.handler.arg + c.args.pattern) = search rules in
    told-alone (answers_quietly c.args.parts.now c.args.parts.now [] _ _ c.requires.lawful.step refl is) c.args.tid (rw same at c.done-in-Sum.ensures)

pub returns-in-Nothing-clause-told : goal.returns-in-Nothing-clause-told
returns-in-Nothing-clause-told c =
    let is : exc_notify (state_of c.args.parts.now) c.args.tid c.args.pattern
    ≡ catch_case (state_of c.args.parts.now) c.args.tid c.args.pattern c.in-Some.handler = searching-some (state_of c.args.parts.now)
    c.args.tid c.args.pattern _ (sym c.if-is_no_pattern.ensures) c.in-Some.handler (sym c.found.ensures.value ∙ c.in-Some.is)
    ∙ ap (excnotify_case_by (state_of c.args.parts.now) c.args.tid c.args.pattern c.in-Some.handler) c.in-Nothing.is in
    rw is c.catch.ensures.told
