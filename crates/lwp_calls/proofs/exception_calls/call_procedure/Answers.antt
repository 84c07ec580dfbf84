use Rattle.death_cleanup.proofs.Outcomes.{answers_refused}
use Rattle.death_cleanup.specs.View.{state_of}
use Rattle.lwp_calls.proofs.Compare.{le-false, le-true}
use Rattle.lwp_calls.proofs.Stacks.{call-unknown, called, not-called, on_err, put-as-before, some-marks, somebody}
use Rattle.lwp_calls.proofs.exception_calls.call_procedure.Goals as goal
use Rattle.lwp_types.specs.declared.call.LwpErr.TheVariants as error
use Rattle.stale_ids.specs.Register.{value_of}
use Rattle.std.proofs.Common.{[], ap, sym, ◌∙◌}

pub returns-then-number-parts-clause-ok : goal.returns-then-number-parts-clause-ok
returns-then-number-parts-clause-ok c = answers_refused c.args.parts.now [] _ error.InvalidArg c.requires.lawful.step
    (call-unknown (state_of c.args.parts.now) c.args.tid c.args.number (le-true c.args.parts.now.procs c.args.number c.if-number-parts.true))

pub returns-in_default-clause-ok : goal.returns-in_default-clause-ok
returns-in_default-clause-ok c = absurd (somebody c.args.parts.now c.requires.lawful c.requires.alone c.args.tid c.requires.may_run
    c.get_mut.ensures.rising (ap (λ n. value_of n c.args.parts.now.ids.live) (sym c.tid.view_is) ∙ sym c.in_default.ensures.value))

pub enter_frame-requires : goal.enter_frame-requires
enter_frame-requires c = some-marks c.args.parts.now c.requires.lawful c.requires.alone c.args.tid c.requires.may_run c.in-Some.kind.now
    c.get_mut.ensures.rising (ap (λ n. value_of n c.args.parts.now.ids.live) (sym c.tid.view_is) ∙ sym c.in-Some.ensures.value)

pub returns-in_err-entered-clause-err : goal.returns-in_err-entered-clause-err
returns-in_err-entered-clause-err c =
    rw c.tid.view_is (on_err c.from_residual.result _ (put-as-before c.args.parts.now c.args.tid c.in-Some.kind.now c.get_mut.ensures.rising
    (ap (λ n. value_of n c.args.parts.now.ids.live) (sym c.tid.view_is) ∙ sym c.in-Some.ensures.value) c.requires.lawful.step
    c.enter_frame.new.kind c.in_err-entered.ensures.err))

pub returns-then-not-entered-clause-ok : goal.returns-then-not-entered-clause-ok
returns-then-not-entered-clause-ok c = rw c.tid.view_is (not-called c.args.parts.now c.args.tid c.in-Some.kind.now c.get_mut.ensures.rising
    (ap (λ n. value_of n c.args.parts.now.ids.live) (sym c.tid.view_is) ∙ sym c.in-Some.ensures.value) c.requires.lawful.step c.args.number
    (le-false c.args.parts.now.procs c.args.number c.if-number-parts.false)
    c.enter_frame.new.kind c.in_ok-entered.ensures.ok (sym c.if-not-entered.true ∙ c.in_ok-entered.ensures.room))

pub returns-clause-ok : goal.returns-clause-ok
returns-clause-ok c = rw c.tid.view_is (called c.args.parts.now c.args.tid c.in-Some.kind.now c.get_mut.ensures.rising
    (ap (λ n. value_of n c.args.parts.now.ids.live) (sym c.tid.view_is) ∙ sym c.in-Some.ensures.value) c.requires.lawful.step c.args.number
    (le-false c.args.parts.now.procs c.args.number c.if-number-parts.false)
    c.enter_frame.new.kind c.in_ok-entered.ensures.ok (sym c.if-not-entered.false ∙ c.in_ok-entered.ensures.room))
