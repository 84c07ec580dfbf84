use Rattle.death_cleanup.proofs.Outcomes.{answers_refused, came_as}
use Rattle.death_cleanup.specs.View.{state_of}
use Rattle.lwp_calls.proofs.Made.{ComesTo-answers}
use Rattle.lwp_calls.proofs.Messaging.{mapped-absent, mapped-some, mapped-there, no_letter, place-left, send-absent, send-made, send-self, taken-still}
use Rattle.lwp_calls.proofs.Places.{nine}
use Rattle.lwp_calls.proofs.Waiting.{as_many, running}
use Rattle.lwp_calls.proofs.message_calls.send.Goals as goal
use Rattle.lwp_types.specs.Messages.{post, takes_from}
use Rattle.lwp_types.specs.State.{State, passes, thread_of}
use Rattle.lwp_types.specs.declared.call.LwpErr.TheVariants as error
use Rattle.lwp_types.specs.declared.rows.Block.TheVariants as block
use Rattle.lwp_types.specs.declared.rows.Letter.{Letter}
use Rattle.rendezvous.specs.MessageTable.{has_letter_of}
use Rattle.std.proofs.Common.{ap, arith, false, length, refl, sym, ◌∙◌}

pub returns-in_default-clause-comes : goal.returns-in_default-clause-comes
returns-in_default-clause-comes c =
    let absent = mapped-absent _ (thread_of (state_of c.args.parts.now) c.args.to) (sym c.receiver.ensures ∙ c.in_default.is) in
    ComesTo-answers (answers_refused c.args.parts.now c.args.effects.now _ error.NonExist c.requires.lawful.step
    (send-absent (state_of c.args.parts.now) c.args.caller c.args.to c.args.room c.args.text.now absent))

pub returns-then-eq-clause-comes : goal.returns-then-eq-clause-comes
returns-then-eq-clause-comes c =
    let there = mapped-there _ (thread_of (state_of c.args.parts.now) c.args.to) c.in-Some.received (sym c.receiver.ensures ∙ c.in-Some.is) in
    ComesTo-answers (answers_refused c.args.parts.now c.args.effects.now _ error.InvalidArg c.requires.lawful.step
    (send-self (state_of c.args.parts.now) c.args.caller c.args.to c.args.room c.args.text.now there (sym c.if-eq.ensures)))

pub put-requires-clause-known : goal.put-requires-clause-known
put-requires-clause-known c =
    mapped-some _ (thread_of (state_of c.args.parts.now) c.args.to) c.in-Some.received (sym c.receiver.ensures ∙ c.in-Some.is)
    ∙ sym (taken-still (state_of c.args.parts.now) c.args.caller c.args.to (sym c.if-eq.ensures) block.Sending)
    ∙ ap (λ (s : State). passes (λ row. takes_from c.args.caller row.block) (thread_of s c.args.to)) (sym c.block.ensures.state)

pub put-requires-clause-new : goal.put-requires-clause-new
put-requires-clause-new c =
    let row = running (state_of c.args.parts.now) c.args.caller c.requires.may_run in
    ap (λ (s : State). has_letter_of s.letters c.args.caller) c.block.ensures.state
    ∙ no_letter (state_of c.args.parts.now) (nine c.args.parts.now c.requires.lawful c.requires.alone) c.args.caller row.row row.known row.runs

pub put-requires-clause-place : goal.put-requires-clause-place
put-requires-clause-place c =
    let row = running (state_of c.args.parts.now) c.args.caller c.requires.may_run in
    omega (
      arith,
      place-left (state_of c.args.parts.now) (nine c.args.parts.now c.requires.lawful c.requires.alone) c.args.caller row.row row.known row.runs,
      ap (λ (s : State). length s.letters) c.block.ensures.state,
      ap (λ (s : State). length s.threads) c.block.ensures.state,
      ap (λ (s : State). length s.agents) c.block.ensures.state,
      as_many c.args.caller block.Sending (state_of c.args.parts.now).threads,
      c.block.ensures.step.roomy.letters,
    )

pub returns-clause-comes : goal.returns-clause-comes
returns-clause-comes c =
    let letter : Letter = record { from = c.args.caller; to = c.args.to; text = c.args.text.now; room = c.args.room; received = false } in
    let there = ap (λ (s : State). post letter s) c.block.ensures.state in
    let lives = mapped-there _ (thread_of (state_of c.args.parts.now) c.args.to) c.in-Some.received (sym c.receiver.ensures ∙ c.in-Some.is) in
    rw (send-made (state_of c.args.parts.now) c.args.caller c.args.to c.args.room c.args.text.now lives (sym c.if-eq.ensures))
    (record {
      came = came_as c.args.parts.now c.block.new.parts c.put.new.parts c.args.effects.now c.put.new.effects _ _
          (rw c.again.ensures at c.put.ensures) c.block.ensures.dying (sym there);
      own = refl;
    })
