use Rattle.death_cleanup.proofs.Draining.{starts}
use Rattle.death_cleanup.proofs.Keeping.{InStep-noted}
use Rattle.death_cleanup.proofs.Waits.{change, list, noted-on, over, turn_fewer, turn_on, turn_room, turn_waits}
use Rattle.death_cleanup.proofs.waiters.dismiss.Goals as goal
use Rattle.death_cleanup.specs.Ties.{HasLawfulThreads}
use Rattle.death_cleanup.specs.declared.parts.Parts.{Parts}
use Rattle.std.proofs.Common.{sym, ◌∙◌}

pub first_from-requires-clause-noted : goal.first_from-requires-clause-noted
first_from-requires-clause-noted c = c.loop-other.invariant.drains.step.noted

pub first_from-requires-clause-start : goal.first_from-requires-clause-start
first_from-requires-clause-start c = c.loop-other.invariant.start

pub wake_done-requires-clause-step : goal.wake_done-requires-clause-step
wake_done-requires-clause-step c = InStep-noted c.loop-other.parts c.loop-other.invariant.drains.step c.first_from.new.self c.first_from.ensures.noted

pub wake_done-requires-clause-waits : goal.wake_done-requires-clause-waits
wake_done-requires-clause-waits c = turn_waits c.args.what c.args.tid c.args.parts.now c.args.effects.now c.loop-other.parts
    c.loop-other.effects c.loop-other.invariant.drains c.in-Some.other (sym c.first_from.ensures.value ∙ c.in-Some.is)

pub wake_done-requires-clause-room : goal.wake_done-requires-clause-room
wake_done-requires-clause-room c = turn_room c.args.what c.args.tid c.args.parts.now c.args.effects.now c.loop-other.parts
    c.loop-other.effects c.loop-other.invariant.drains c.in-Some.other (sym c.first_from.ensures.value ∙ c.in-Some.is)

pub loop-other-smaller : goal.loop-other-smaller
loop-other-smaller c =
    let noted : Parts = record c.loop-other.parts { named = c.first_from.new.self } in
    let on = noted-on c.args.what c.args.tid c.args.parts.now c.args.effects.now c.loop-other.parts c.loop-other.effects
    c.loop-other.invariant.drains c.first_from.new.self c.first_from.ensures.noted in
    turn_fewer c.args.what c.args.tid c.args.parts.now c.args.effects.now noted c.loop-other.effects on c.in-Some.other
    (sym c.first_from.ensures.value ∙ c.in-Some.is) c.wake_done.new.parts c.wake_done.new.effects (rw c.answer.ensures at c.wake_done.ensures.came)

pub loop-other-preserved : goal.loop-other-preserved
loop-other-preserved c =
    let noted : Parts = record c.loop-other.parts { named = c.first_from.new.self } in
    let on = noted-on c.args.what c.args.tid c.args.parts.now c.args.effects.now c.loop-other.parts c.loop-other.effects
    c.loop-other.invariant.drains c.first_from.new.self c.first_from.ensures.noted in
    record {
      drains = turn_on c.args.what c.args.tid c.args.parts.now c.args.effects.now noted c.loop-other.effects on c.in-Some.other
          (sym c.first_from.ensures.value ∙ c.in-Some.is) c.wake_done.new.parts c.wake_done.new.effects (rw c.answer.ensures at c.wake_done.ensures.came);
      start = rw c.wake_done.ensures.named c.first_from.ensures.start;
    }

pub returns-clause-came : goal.returns-clause-came
returns-clause-came c =
    let noted : Parts = record c.loop-other.parts { named = c.first_from.new.self } in
    let on = noted-on c.args.what c.args.tid c.args.parts.now c.args.effects.now c.loop-other.parts c.loop-other.effects
    c.loop-other.invariant.drains c.first_from.new.self c.first_from.ensures.noted in
    over c.args.what c.args.tid c.args.parts.now c.args.effects.now noted c.loop-other.effects on (sym c.first_from.ensures.value ∙ c.in_default.is)

pub returns-clause-next : goal.returns-clause-next
returns-clause-next c = c.in_default.ensures.next

pub loop-other-init : goal.loop-other-init
loop-other-init c = record {
  drains = starts HasLawfulThreads (list c.args.what c.args.tid) (change c.args.what c.args.tid) 0 c.args.parts.now c.args.effects.now
      c.requires.threads c.requires.step c.requires.room;
  start = c.requires.start;
}
