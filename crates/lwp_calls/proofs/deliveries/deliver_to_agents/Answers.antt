use Rattle.lwp_calls.proofs.Delivering.{delivered_all, delivers, lawful_now, next_count, next_delivers, next_fewer, next_room, next_waits}
use Rattle.lwp_calls.proofs.Places.{nine}
use Rattle.lwp_calls.proofs.deliveries.deliver_to_agents.Goals as goal
use Rattle.std.proofs.Common.{arith, sym, ◌∙◌}

pub loop-agent-init : goal.loop-agent-init
loop-agent-init c = delivers c.args.event c.args.text.now c.args.parts.now c.args.effects.now
    (nine c.args.parts.now c.requires.lawful c.requires.alone) c.requires.lawful.step c.requires.room c.requires.armed

pub deliver_to-requires-clause-lawful : goal.deliver_to-requires-clause-lawful
deliver_to-requires-clause-lawful c = lawful_now c.args.event c.args.text.now c.args.parts.now c.args.effects.now c.loop-agent.count
    c.loop-agent.parts c.loop-agent.effects c.loop-agent.invariant c.requires.alone

pub deliver_to-requires-clause-waits : goal.deliver_to-requires-clause-waits
deliver_to-requires-clause-waits c = next_waits c.args.event c.args.text.now c.args.parts.now c.args.effects.now c.loop-agent.count
    c.loop-agent.parts c.loop-agent.effects c.loop-agent.invariant c.in-Some.agent (sym c.nth_of.ensures ∙ c.in-Some.is)

pub deliver_to-requires-clause-room : goal.deliver_to-requires-clause-room
deliver_to-requires-clause-room c = next_room c.args.event c.args.text.now c.args.parts.now c.args.effects.now c.loop-agent.count
    c.loop-agent.parts c.loop-agent.effects c.loop-agent.invariant c.in-Some.agent (sym c.nth_of.ensures ∙ c.in-Some.is)

pub overflow_add-count : goal.overflow_add-count
overflow_add-count c =
    omega (arith, next_count c.args.event c.args.text.now c.args.parts.now c.args.effects.now c.loop-agent.count c.loop-agent.parts c.loop-agent.effects c.loop-agent.invariant c.in-Some.agent (sym c.nth_of.ensures ∙ c.in-Some.is))

pub loop-agent-smaller : goal.loop-agent-smaller
loop-agent-smaller c = next_fewer c.args.event c.args.text.now c.args.parts.now c.args.effects.now c.loop-agent.count c.loop-agent.parts
    c.loop-agent.effects c.loop-agent.invariant c.in-Some.agent (sym c.nth_of.ensures ∙ c.in-Some.is) c.deliver_to.new.parts
    c.deliver_to.new.effects c.deliver_to.ensures

pub loop-agent-preserved : goal.loop-agent-preserved
loop-agent-preserved c = next_delivers c.args.event c.args.text.now c.args.parts.now c.args.effects.now c.loop-agent.count
    c.loop-agent.parts c.loop-agent.effects c.loop-agent.invariant c.in-Some.agent (sym c.nth_of.ensures ∙ c.in-Some.is)
    c.deliver_to.new.parts c.deliver_to.new.effects c.deliver_to.ensures

pub returns : goal.returns
returns c = delivered_all c.args.event c.args.text.now c.args.parts.now c.args.effects.now c.loop-agent.count c.loop-agent.parts
    c.loop-agent.effects c.loop-agent.invariant c.requires.armed (sym c.nth_of.ensures ∙ c.in_default.is)
