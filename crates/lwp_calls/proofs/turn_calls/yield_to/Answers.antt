use Rattle.lwp_calls.proofs.Agree.{eligible-same}
use Rattle.lwp_calls.proofs.Levels.{InStep-levels}
use Rattle.lwp_calls.proofs.Made.{Answers-is}
use Rattle.lwp_calls.proofs.Waiting.{lives}
use Rattle.lwp_calls.proofs.turn_calls.yield_to.Goals as goal
use Rattle.lwp_types.specs.Case.{unless}
use Rattle.lwp_types.specs.State.{is_thread, priority_in}
use Rattle.death_cleanup.specs.View.{state_of}
use Rattle.pod_sched.specs.Schedule.{after_yield}
use Rattle.std.proofs.Common.{refl, sym, true, ◌∙◌, ◌≡◌}
use Rattle.std.proofs.lemmas.Bool.{eq-eqb, eqb-true}

pub yield_to-requires-clause-from_may_run : goal.yield_to-requires-clause-from_may_run
yield_to-requires-clause-from_may_run c = sym (eligible-same c.args.parts.now c.requires.step.tied c.requires.alone c.args.caller) ∙ c.requires.may_run

pub yield_to-requires-clause-to_may_run : goal.yield_to-requires-clause-to_may_run
yield_to-requires-clause-to_may_run c = sym (eligible-same c.args.parts.now c.requires.step.tied c.requires.alone c.args.caller) ∙ c.requires.may_run

pub returns-then-eq : goal.returns-then-eq
unfolding unless
returns-then-eq c =
    let living : is_thread (state_of c.args.parts.now) c.args.caller ≡ true = lives (state_of c.args.parts.now) c.args.caller c.requires.may_run in
    rw c.yield_to.ensures (Answers-is (rw (
      eqb-true c.args.to c.args.caller (sym c.eq.ensures ∙ c.if-eq.true),
      living,
      eq-eqb (priority_in (state_of c.args.parts.now) c.args.caller) _ refl,
      c.requires.may_run,
    ) refl)
    (InStep-levels c.args.parts.now c.requires.step (after_yield c.args.parts.now.sched c.args.caller c.args.caller).order
    c.args.parts.now.sched.maxpri c.args.parts.now.exit c.args.parts.now.ended)
    refl)
