use Rattle.death_cleanup.specs.View.{state_of}
use Rattle.lwp_calls.proofs.Delivering.{came_found, own, owned, unowned, who}
use Rattle.lwp_calls.proofs.Messaging.{agent-place, agent_no_letter}
use Rattle.lwp_calls.proofs.Places.{nine}
use Rattle.lwp_calls.proofs.deliveries.deliver_to.Goals as goal
use Rattle.rendezvous.specs.MessageTable.{has_letter_of}
use Rattle.std.proofs.Common.{ap, arith, sym, ◌∙◌}

pub post-requires-clause-new : goal.post-requires-clause-new
post-requires-clause-new c =
    let parts = c.args.parts.now in
    let agent = who parts c.args.event c.args.agent c.args.text.now c.requires.waits in
    sym (ap (has_letter_of parts.mail.letters) agent.number)
    ∙ agent_no_letter (state_of parts) (nine parts c.requires.lawful c.requires.alone) agent.row
    (own parts c.args.event c.args.agent c.args.text.now c.requires.waits) agent.free

pub post-requires-clause-place : goal.post-requires-clause-place
post-requires-clause-place c =
    let parts = c.args.parts.now in
    let agent = who parts c.args.event c.args.agent c.args.text.now c.requires.waits in
    omega (
      arith,
      agent-place (state_of parts) (nine parts c.requires.lawful c.requires.alone) agent.row
          (own parts c.args.event c.args.agent c.args.text.now c.requires.waits) agent.free,
      c.requires.lawful.step.roomy.letters,
    )

pub returns : goal.returns
returns c =
    let parts = c.args.parts.now in
    let owner = owned parts c.args.event c.args.agent c.args.text.now c.requires.waits c.in-Some.owner c.owner_of.result c.owner_of.ensures c.in-Some.is in
    came_found parts c.args.event c.args.agent c.args.text.now c.requires.waits c.post.new.parts c.args.effects.now c.push.new.self
    c.post.new.effects c.in-Some.owner owner c.push.ensures (rw (c.hold.ensures, c.again.ensures) at c.post.ensures)

pub unreachable-requires : goal.unreachable-requires
unreachable-requires c =
    unowned c.args.parts.now c.args.event c.args.agent c.args.text.now c.requires.waits c.owner_of.result c.owner_of.ensures c.in_default.is
