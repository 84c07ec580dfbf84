use Rattle.death_cleanup.proofs.Draining.{starts}
use Rattle.death_cleanup.proofs.Refusals.{lighter_step, list, sender_fewer, sender_on, sender_room, sender_waits, senders_over}
use Rattle.death_cleanup.proofs.waiters.refuse_senders.Goals as goal
use Rattle.lwp_types.specs.Death.{refuse_sender}
use Rattle.pod_laws.proofs.DeathLoops.{Lonely}
use Rattle.std.proofs.Common.{sym, ◌∙◌}

pub loop-sender-init : goal.loop-sender-init
loop-sender-init c = starts (Lonely c.args.tid) (list c.args.tid) refuse_sender 0 c.args.parts.now c.args.effects.now c.requires.lonely
    c.requires.step c.requires.room

pub wake_done-requires-clause-step : goal.wake_done-requires-clause-step
wake_done-requires-clause-step c =
    rw c.pop_to.ensures.after (lighter_step c.args.tid c.args.parts.now c.args.effects.now c.loop-sender.parts c.loop-sender.effects c.loop-sender.invariant)

pub wake_done-requires-clause-waits : goal.wake_done-requires-clause-waits
wake_done-requires-clause-waits c = sender_waits c.args.tid c.args.parts.now c.args.effects.now c.loop-sender.parts c.loop-sender.effects
    c.loop-sender.invariant c.in-Some.sender (sym c.pop_to.ensures.value ∙ c.in-Some.is)

pub wake_done-requires-clause-room : goal.wake_done-requires-clause-room
wake_done-requires-clause-room c = sender_room c.args.tid c.args.parts.now c.args.effects.now c.loop-sender.parts c.loop-sender.effects
    c.loop-sender.invariant c.in-Some.sender (sym c.pop_to.ensures.value ∙ c.in-Some.is)

pub loop-sender-smaller : goal.loop-sender-smaller
loop-sender-smaller c = sender_fewer c.args.tid c.args.parts.now c.args.effects.now c.loop-sender.parts c.loop-sender.effects
    c.loop-sender.invariant c.in-Some.sender (sym c.pop_to.ensures.value ∙ c.in-Some.is) c.wake_done.new.parts c.wake_done.new.effects
    (rw c.pop_to.ensures.after at c.wake_done.ensures.came)

pub loop-sender-preserved : goal.loop-sender-preserved
loop-sender-preserved c = sender_on c.args.tid c.args.parts.now c.args.effects.now c.loop-sender.parts c.loop-sender.effects
    c.loop-sender.invariant c.in-Some.sender (sym c.pop_to.ensures.value ∙ c.in-Some.is) c.wake_done.new.parts c.wake_done.new.effects
    (rw c.pop_to.ensures.after at c.wake_done.ensures.came)

pub returns : goal.returns
returns c = record {
  came = rw c.pop_to.ensures.after (senders_over c.args.tid c.args.parts.now c.args.effects.now c.loop-sender.parts c.loop-sender.effects
      c.loop-sender.invariant (sym c.pop_to.ensures.value ∙ c.in_default.is));
}
