use Rattle.death_cleanup.proofs.Outcomes.{answers_refused}
use Rattle.death_cleanup.specs.View.{state_of}
use Rattle.lwp_calls.proofs.Made.{told-alone}
use Rattle.lwp_calls.proofs.Stacks.{searching-bad, searching-none, searching-some}
use Rattle.lwp_calls.proofs.exception_calls.raise.Goals as goal
use Rattle.lwp_types.specs.Exits.{catch_case}
use Rattle.lwp_types.specs.declared.call.LwpErr.TheVariants as error
use Rattle.std.proofs.Common.{[], sym, ◌∙◌}

pub returns-then-is_no_pattern-clause-told : goal.returns-then-is_no_pattern-clause-told
returns-then-is_no_pattern-clause-told c = told-alone
    (answers_refused c.args.parts.now [] _ error.InvalidArg c.requires.lawful.step
    (searching-bad (state_of c.args.parts.now) c.args.tid c.args.pattern _ (sym c.if-is_no_pattern.ensures)))
    c.args.tid c.done.ensures

pub returns-in_default-clause-told : goal.returns-in_default-clause-told
returns-in_default-clause-told c = told-alone
    (answers_refused c.args.parts.now [] _ error.NonExist c.requires.lawful.step
    (searching-none (state_of c.args.parts.now) c.args.tid c.args.pattern _ (sym c.if-is_no_pattern.ensures) (sym c.found.ensures.value ∙ c.in_default.is)))
    c.args.tid c.done-in_default.ensures

pub returns-clause-told : goal.returns-clause-told
returns-clause-told c = rw
    (searching-some (state_of c.args.parts.now) c.args.tid c.args.pattern (catch_case (state_of c.args.parts.now) c.args.tid c.args.pattern)
    (sym c.if-is_no_pattern.ensures) c.in-Some.handler (sym c.found.ensures.value ∙ c.in-Some.is))
    c.catch.ensures.told
