use Rattle.lwp_calls.proofs.Agree.{eligible-same, priority-same}
use Rattle.lwp_calls.proofs.Compare.{differ}
use Rattle.lwp_calls.proofs.Levels.{InStep-levels}
use Rattle.lwp_calls.proofs.Made.{Answers-is}
use Rattle.lwp_calls.proofs.turn_calls.yield_to_other.Goals as goal
use Rattle.lwp_types.specs.Case.{unless}
use Rattle.pod_sched.specs.Schedule.{after_yield}
use Rattle.std.proofs.Common.{refl, sym, ◌∙◌}
use Rattle.std.proofs.lemmas.Bool.{eq-eqb}

pub returns-then-not-is_thread : goal.returns-then-not-is_thread
unfolding unless
returns-then-not-is_thread c = Answers-is (rw (sym c.if-not-is_thread.ensures) refl) c.requires.step refl

pub returns-then-prio_of : goal.returns-then-prio_of
unfolding unless
returns-then-prio_of c = Answers-is
    (rw (sym c.if-not-is_thread.ensures, sym c.prio_of.ensures, sym c.prio_of-2.ensures, differ c.prio_of.result c.prio_of-2.result c.if-prio_of.true) refl)
    c.requires.step refl

pub returns-then-not-may_run : goal.returns-then-not-may_run
unfolding unless
returns-then-not-may_run c = Answers-is
    (rw (
      sym c.if-not-is_thread.ensures,
      sym c.prio_of.ensures,
      sym c.prio_of-2.ensures,
      eq-eqb c.prio_of.result c.prio_of-2.result c.if-prio_of.false,
      sym c.if-not-may_run.ensures,
    )
    refl)
    c.requires.step refl

pub yield_to-requires-clause-from_may_run : goal.yield_to-requires-clause-from_may_run
yield_to-requires-clause-from_may_run c = sym (eligible-same c.args.parts.now c.requires.step.tied c.requires.alone c.args.caller) ∙ c.requires.may_run

pub yield_to-requires-clause-to_may_run : goal.yield_to-requires-clause-to_may_run
yield_to-requires-clause-to_may_run c = sym (eligible-same c.args.parts.now c.requires.step.tied c.requires.alone c.args.to) ∙ sym c.if-not-may_run.ensures

pub yield_to-requires-clause-same_prio : goal.yield_to-requires-clause-same_prio
yield_to-requires-clause-same_prio c =
    let same = priority-same c.args.parts.now c.requires.step.tied c.requires.alone in
    sym (same c.args.caller) ∙ sym c.prio_of-2.ensures ∙ sym c.if-prio_of.false ∙ c.prio_of.ensures ∙ same c.args.to

pub returns : goal.returns
unfolding unless
returns c = rw c.yield_to.ensures
    (Answers-is (rw (
      sym c.if-not-is_thread.ensures,
      sym c.prio_of.ensures,
      sym c.prio_of-2.ensures,
      eq-eqb c.prio_of.result c.prio_of-2.result c.if-prio_of.false,
      sym c.if-not-may_run.ensures,
    ) refl)
    (InStep-levels c.args.parts.now c.requires.step (after_yield c.args.parts.now.sched c.args.caller c.args.to).order
    c.args.parts.now.sched.maxpri c.args.parts.now.exit c.args.parts.now.ended)
    refl)
