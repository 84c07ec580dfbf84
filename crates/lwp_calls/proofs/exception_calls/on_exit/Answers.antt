use Rattle.death_cleanup.proofs.Outcomes.{answers_refused}
use Rattle.death_cleanup.specs.View.{state_of}
use Rattle.lwp_calls.proofs.Compare.{le-false, le-true}
use Rattle.lwp_calls.proofs.Stacks.{exit-full, exit-late, on_err, put-as-before, set-exit, some-marks, somebody}
use Rattle.lwp_calls.proofs.exception_calls.on_exit.Goals as goal
use Rattle.lwp_types.specs.declared.call.LwpErr.TheVariants as error
use Rattle.stale_ids.specs.Register.{value_of}
use Rattle.std.proofs.Common.{[], ap, arith, pos, rules, sym, to_z, w64, ◌∙◌, ◌≡◌}

pub returns-then-reg-ge-MOST_REGISTRATIONS-clause-ok : goal.returns-then-reg-ge-MOST_REGISTRATIONS-clause-ok
returns-then-reg-ge-MOST_REGISTRATIONS-clause-ok c = answers_refused c.args.parts.now [] _ error.NoRoom c.requires.lawful.step (exit-late (state_of
    c.args.parts.now) c.args.tid c.args.exit.now (le-true 4294967295 c.args.parts.now.registration (omega (arith, c.if-reg-ge-MOST_REGISTRATIONS.true))))

pub returns-in_default-clause-ok : goal.returns-in_default-clause-ok
returns-in_default-clause-ok c = absurd (somebody c.args.parts.now c.requires.lawful c.requires.alone c.args.tid c.requires.may_run
    c.get_mut.ensures.rising (ap (λ n. value_of n c.args.parts.now.ids.live) (sym c.tid.view_is) ∙ sym c.in_default.ensures.value))

pub set_exit-requires : goal.set_exit-requires
set_exit-requires c = some-marks c.args.parts.now c.requires.lawful c.requires.alone c.args.tid c.requires.may_run c.in-Some.kind.now
    c.get_mut.ensures.rising (ap (λ n. value_of n c.args.parts.now.ids.live) (sym c.tid.view_is) ∙ sym c.in-Some.ensures.value)

pub returns-in_err-set-clause-err : goal.returns-in_err-set-clause-err
returns-in_err-set-clause-err c =
    rw c.tid.view_is (on_err c.from_residual.result _ (put-as-before c.args.parts.now c.args.tid c.in-Some.kind.now c.get_mut.ensures.rising
    (ap (λ n. value_of n c.args.parts.now.ids.live) (sym c.tid.view_is) ∙ sym c.in-Some.ensures.value) c.requires.lawful.step
    c.set_exit.new.kind c.in_err-set.ensures.err))

pub returns-then-not-set-clause-ok : goal.returns-then-not-set-clause-ok
returns-then-not-set-clause-ok c = rw c.tid.view_is (exit-full c.args.parts.now c.args.tid c.in-Some.kind.now c.get_mut.ensures.rising
    (ap (λ n. value_of n c.args.parts.now.ids.live) (sym c.tid.view_is) ∙ sym c.in-Some.ensures.value) c.requires.lawful.step c.args.exit.now
    c.set_exit.new.kind c.in_ok-set.ensures.ok (sym c.if-not-set.true ∙ c.in_ok-set.ensures.room))

pub returns-clause-ok : goal.returns-clause-ok
returns-clause-ok c =
    let same : to_z w64 c.args.parts.now.registration ≡ pos c.args.parts.now.registration = search rules in
    rw (c.tid.view_is, same) (set-exit c.args.parts.now c.args.tid c.in-Some.kind.now c.get_mut.ensures.rising
    (ap (λ n. value_of n c.args.parts.now.ids.live) (sym c.tid.view_is) ∙ sym c.in-Some.ensures.value) c.requires.lawful.step
    c.args.exit.now (le-false 4294967295 c.args.parts.now.registration (omega (arith, c.if-reg-ge-MOST_REGISTRATIONS.false)))
    c.set_exit.new.kind c.in_ok-set.ensures.ok (sym c.if-not-set.false ∙ c.in_ok-set.ensures.room))
