use Rattle.death_cleanup.proofs.Outcomes.{answers_refused, answers_zero}
use Rattle.death_cleanup.specs.View.{state_of}
use Rattle.lwp_calls.proofs.Destroys.{destroy-agent, destroy-nobody, destroy-other, destroy-self, few_told}
use Rattle.lwp_calls.proofs.Made.{ComesTo-answers}
use Rattle.lwp_calls.proofs.Places.{nine}
use Rattle.lwp_calls.proofs.thread_calls.destroy.Goals as goal
use Rattle.lwp_types.specs.Agents.{end_agent}
use Rattle.lwp_types.specs.Death.{death}
use Rattle.lwp_types.specs.declared.call.LwpErr.TheVariants as error
use Rattle.std.proofs.Common.{ap, arith, length, length-append, refl, sym}

pub end_agent-requires-clause-room : goal.end_agent-requires-clause-room
end_agent-requires-clause-room c =
    omega (arith, ap length c.requires.room, few_told (state_of c.args.parts.now) (nine c.args.parts.now c.requires.lawful c.requires.alone) c.args.tid)

pub returns-then-is_agent-clause-comes : goal.returns-then-is_agent-clause-comes
returns-then-is_agent-clause-comes c =
    ComesTo-answers (answers_zero c.args.parts.now c.end_agent.new.parts c.args.effects.now c.end_agent.new.effects (end_agent c.args.tid
    (state_of c.args.parts.now)) _ c.end_agent.ensures.came (destroy-agent (state_of c.args.parts.now) c.args.caller c.args.tid (sym c.if-is_agent.ensures)))

pub returns-then-is_agent-clause-most : goal.returns-then-is_agent-clause-most
returns-then-is_agent-clause-most c = omega (
  arith,
  ap length c.requires.room,
  ap length c.end_agent.ensures.came.effects,
  length-append c.args.effects.now (end_agent c.args.tid (state_of c.args.parts.now)).effects,
  few_told (state_of c.args.parts.now) (nine c.args.parts.now c.requires.lawful c.requires.alone) c.args.tid,
)

pub returns-then-not-is_thread-clause-comes : goal.returns-then-not-is_thread-clause-comes
returns-then-not-is_thread-clause-comes c = ComesTo-answers (answers_refused c.args.parts.now c.args.effects.now _ error.NonExist
    c.requires.lawful.step (destroy-nobody (state_of c.args.parts.now) c.args.caller c.args.tid (sym c.if-is_agent.ensures) (sym c.if-not-is_thread.ensures)))

pub returns-then-eq-clause-comes : goal.returns-then-eq-clause-comes
returns-then-eq-clause-comes c = rw
    (destroy-self (state_of c.args.parts.now) c.args.caller c.args.tid (sym c.if-is_agent.ensures) (sym c.if-not-is_thread.ensures) (sym c.if-eq.ensures))
    (record { came = c.die.ensures.came; own = refl })

pub returns-else-eq-clause-comes : goal.returns-else-eq-clause-comes
returns-else-eq-clause-comes c = ComesTo-answers (answers_zero c.args.parts.now c.die.new.parts c.args.effects.now c.die.new.effects
    (death c.args.tid (state_of c.args.parts.now)) _ c.die.ensures.came
    (destroy-other (state_of c.args.parts.now) c.args.caller c.args.tid (sym c.if-is_agent.ensures) (sym c.if-not-is_thread.ensures) (sym c.if-eq.ensures)))
