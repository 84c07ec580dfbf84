use Rattle.death_cleanup.proofs.Outcomes.{answers_refused}
use Rattle.death_cleanup.specs.View.{state_of}
use Rattle.lwp_calls.proofs.Stacks.{handle-bad, handled, not-handled, on_err, put-as-before, some-marks, somebody}
use Rattle.lwp_calls.proofs.exception_calls.handle.Goals as goal
use Rattle.lwp_types.specs.declared.call.LwpErr.TheVariants as error
use Rattle.stale_ids.specs.Register.{value_of}
use Rattle.std.proofs.Common.{[], ap, sym, ◌∙◌}

pub returns-then-is_bad-clause-ok : goal.returns-then-is_bad-clause-ok
returns-then-is_bad-clause-ok c = answers_refused c.args.parts.now [] _ error.InvalidArg c.requires.lawful.step
    (handle-bad (state_of c.args.parts.now) c.args.tid c.args.pattern c.args.func c.args.arg (sym c.if-is_bad.ensures))

pub returns-in_default-clause-ok : goal.returns-in_default-clause-ok
returns-in_default-clause-ok c = absurd (somebody c.args.parts.now c.requires.lawful c.requires.alone c.args.tid c.requires.may_run
    c.get_mut.ensures.rising (ap (λ n. value_of n c.args.parts.now.ids.live) (sym c.tid.view_is) ∙ sym c.in_default.ensures.value))

pub set_handler-requires : goal.set_handler-requires
set_handler-requires c = some-marks c.args.parts.now c.requires.lawful c.requires.alone c.args.tid c.requires.may_run c.in-Some.kind.now
    c.get_mut.ensures.rising (ap (λ n. value_of n c.args.parts.now.ids.live) (sym c.tid.view_is) ∙ sym c.in-Some.ensures.value)

pub returns-in_err-set-clause-err : goal.returns-in_err-set-clause-err
returns-in_err-set-clause-err c =
    rw c.tid.view_is (on_err c.from_residual.result _ (put-as-before c.args.parts.now c.args.tid c.in-Some.kind.now c.get_mut.ensures.rising
    (ap (λ n. value_of n c.args.parts.now.ids.live) (sym c.tid.view_is) ∙ sym c.in-Some.ensures.value) c.requires.lawful.step
    c.set_handler.new.kind c.in_err-set.ensures.err))

pub returns-then-not-set-clause-ok : goal.returns-then-not-set-clause-ok
returns-then-not-set-clause-ok c = rw c.tid.view_is (not-handled c.args.parts.now c.args.tid c.in-Some.kind.now c.get_mut.ensures.rising
    (ap (λ n. value_of n c.args.parts.now.ids.live) (sym c.tid.view_is) ∙ sym c.in-Some.ensures.value) c.requires.lawful.step c.args.pattern
    c.args.func c.args.arg (sym c.if-is_bad.ensures)
    c.set_handler.new.kind c.in_ok-set.ensures.ok (sym c.if-not-set.true ∙ c.in_ok-set.ensures.room))

pub returns-clause-ok : goal.returns-clause-ok
returns-clause-ok c = rw c.tid.view_is (handled c.args.parts.now c.args.tid c.in-Some.kind.now c.get_mut.ensures.rising
    (ap (λ n. value_of n c.args.parts.now.ids.live) (sym c.tid.view_is) ∙ sym c.in-Some.ensures.value) c.requires.lawful.step c.args.pattern
    c.args.func c.args.arg (sym c.if-is_bad.ensures)
    c.set_handler.new.kind c.in_ok-set.ensures.ok (sym c.if-not-set.false ∙ c.in_ok-set.ensures.room))
