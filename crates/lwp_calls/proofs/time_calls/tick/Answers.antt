use Rattle.lwp_calls.proofs.Places.{nine}
use Rattle.lwp_calls.proofs.Ticking.{due_fewer, due_on, due_over, due_room, due_waits, lighter_step, tick_starts}
use Rattle.lwp_calls.proofs.time_calls.tick.Goals as goal
use Rattle.std.proofs.Common.{sym, ◌∙◌}

pub loop-tid-init : goal.loop-tid-init
loop-tid-init c = rw (c.tell_tick.ensures, c.now.ensures.value, c.tick.ensures)
    (tick_starts c.args.parts.now c.args.effects.now (nine c.args.parts.now c.requires.lawful c.requires.alone) c.requires.lawful.step c.requires.room)

pub time_out-requires-clause-step : goal.time_out-requires-clause-step
time_out-requires-clause-step c =
    rw c.pop_due.ensures.after (lighter_step c.args.parts.now c.args.effects.now c.loop-tid.parts c.loop-tid.effects c.loop-tid.invariant)

pub time_out-requires-clause-waits : goal.time_out-requires-clause-waits
time_out-requires-clause-waits c = rw c.pop_due.ensures.after (due_waits c.args.parts.now c.args.effects.now c.loop-tid.parts
    c.loop-tid.effects c.loop-tid.invariant c.in-Some.tid (sym c.pop_due.ensures.value ∙ c.in-Some.is))

pub time_out-requires-clause-room : goal.time_out-requires-clause-room
time_out-requires-clause-room c = due_room c.args.parts.now c.args.effects.now c.loop-tid.parts c.loop-tid.effects c.loop-tid.invariant
    c.in-Some.tid (sym c.pop_due.ensures.value ∙ c.in-Some.is)

pub loop-tid-smaller : goal.loop-tid-smaller
loop-tid-smaller c = due_fewer c.args.parts.now c.args.effects.now c.loop-tid.parts c.loop-tid.effects c.loop-tid.invariant c.in-Some.tid
    (sym c.pop_due.ensures.value ∙ c.in-Some.is) c.time_out.new.parts c.time_out.new.effects (rw c.pop_due.ensures.after at c.time_out.ensures)

pub loop-tid-preserved : goal.loop-tid-preserved
loop-tid-preserved c = due_on c.args.parts.now c.args.effects.now c.loop-tid.parts c.loop-tid.effects c.loop-tid.invariant c.in-Some.tid
    (sym c.pop_due.ensures.value ∙ c.in-Some.is) c.time_out.new.parts c.time_out.new.effects (rw c.pop_due.ensures.after at c.time_out.ensures)

pub returns : goal.returns
returns c = rw c.pop_due.ensures.after (due_over c.args.parts.now c.args.effects.now c.loop-tid.parts c.loop-tid.effects
    c.loop-tid.invariant c.requires.lawful.step (sym c.pop_due.ensures.value ∙ c.in_default.is))
