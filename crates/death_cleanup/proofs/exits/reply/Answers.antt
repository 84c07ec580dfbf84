use Rattle.death_cleanup.proofs.Outcomes.{answers_refused, answers_zero, came_as, came_quietly}
use Rattle.death_cleanup.proofs.Replying.{InStep-lighter, InStep-rearmed, agent-left, rearmed, replied-agent, replied-thread}
use Rattle.death_cleanup.proofs.Replying.{reply-absent, reply-made, reply-refused, reply-some, sender-waits, thread-apart}
use Rattle.death_cleanup.proofs.exits.reply.Goals as goal
use Rattle.death_cleanup.specs.View.{state_of}
use Rattle.lwp_types.specs.Messages.{after_reply, received_letter}
use Rattle.lwp_types.specs.Unblock.{unblock}
use Rattle.lwp_types.specs.declared.call.Answer.TheVariants as answer
use Rattle.lwp_types.specs.declared.call.LwpErr.TheVariants as error
use Rattle.rendezvous.specs.MessageTable.{refusal}
use Rattle.std.proofs.Common.{None, Some, ap, length, refl, sym, ◌∙◌, ◌≡◌}
use Rattle.std.specs.Result.{result_err}

pub returns-then-not-lives : goal.returns-then-not-lives
returns-then-not-lives c = record {
  answers = answers_refused c.args.parts.now c.args.effects.now _ error.NonExist c.requires.lawful.step
      (reply-absent (state_of c.args.parts.now) c.args.tid c.args.to c.args.text.now (sym c.if-not-lives.ensures));
}

pub returns-in-Err : goal.returns-in-Err
returns-in-Err c =
    let cause : refusal (received_letter c.args.parts.now.mail.letters c.args.tid c.args.to) (length c.args.text.now)
    ≡ Some c.in-Err.err = rw (← c.len-len.ensures) (sym c.reply.ensures.cause ∙ ap result_err c.in-Err.is) in
    record {
      answers = rw c.in-Err.ensures.err (answers_refused c.args.parts.now c.args.effects.now _ c.in-Err.err c.requires.lawful.step
          (reply-refused (state_of c.args.parts.now) c.args.tid c.args.to c.args.text.now (sym c.if-not-lives.ensures) c.in-Err.err cause));
    }

pub wake_replied-requires-clause-step : goal.wake_replied-requires-clause-step
wake_replied-requires-clause-step c = rw c.in_default.ensures.ok (InStep-lighter c.args.parts.now c.args.to c.requires.lawful.step)

pub wake_replied-requires-clause-waits : goal.wake_replied-requires-clause-waits
wake_replied-requires-clause-waits c =
    let fine : refusal (received_letter c.args.parts.now.mail.letters c.args.tid c.args.to) (length c.args.text.now)
    ≡ None = rw (← c.len-len.ensures) (sym c.reply.ensures.cause ∙ ap result_err c.in_default.is) in
    sender-waits c.args.parts.now c.args.to c.requires.lawful c.args.tid
    (reply-some (state_of c.args.parts.now) c.args.tid c.args.to c.args.text.now fine) (sym c.is_thread-is_one.ensures ∙ c.if-is_one.true)

pub returns-then-is_one : goal.returns-then-is_one
returns-then-is_one c =
    let fine : refusal (received_letter c.args.parts.now.mail.letters c.args.tid c.args.to) (length c.args.text.now)
    ≡ None = rw (← c.len-len.ensures) (sym c.reply.ensures.cause ∙ ap result_err c.in_default.is) in
    let no_agent = thread-apart (state_of c.args.parts.now) c.args.to (c.requires.lawful.nine.numbers.2 c.args.to)
    (sym c.is_thread-is_one.ensures ∙ c.if-is_one.true) in
    let is : after_reply c.args.to c.args.text.now (state_of c.args.parts.now)
    ≡ unblock (answer.Reply c.args.text.now) c.args.to (state_of (record c.args.parts.now { mail = c.reply.new.self })) =
    rw c.in_default.ensures.ok (replied-thread c.args.parts.now c.args.to c.args.text.now no_agent) in
    record {
      answers = answers_zero _ _ _ _ (after_reply c.args.to c.args.text.now (state_of c.args.parts.now)) _
          (came_as _ _ _ _ _ _ _ c.wake_replied.ensures.came refl is)
          (reply-made (state_of c.args.parts.now) c.args.tid c.args.to c.args.text.now (sym c.if-not-lives.ensures) fine);
    }

pub returns : goal.returns
returns c =
    let fine : refusal (received_letter c.args.parts.now.mail.letters c.args.tid c.args.to) (length c.args.text.now)
    ≡ None = rw (← c.len-len.ensures) (sym c.reply.ensures.cause ∙ ap result_err c.in_default.is) in
    let agent = agent-left (state_of c.args.parts.now) c.args.to (sym c.if-not-lives.ensures) (sym c.is_thread-is_one.ensures ∙ c.if-is_one.false) in
    record {
      answers = rw (c.release.ensures, c.in_default.ensures.ok) (answers_zero c.args.parts.now (rearmed c.args.parts.now c.args.to)
          c.args.effects.now c.args.effects.now (after_reply c.args.to c.args.text.now (state_of c.args.parts.now)) _
          (came_quietly c.args.parts.now (rearmed c.args.parts.now c.args.to) c.args.effects.now _
          (InStep-rearmed c.args.parts.now c.args.to c.requires.lawful.step) refl (replied-agent c.args.parts.now c.args.to c.args.text.now agent))
          (reply-made (state_of c.args.parts.now) c.args.tid c.args.to c.args.text.now (sym c.if-not-lives.ensures) fine));
    }
