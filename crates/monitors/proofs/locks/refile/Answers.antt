use Rattle.lwp_types.specs.MonitorRelease.{is_lock, locks_on}
use Rattle.lwp_types.specs.State.{passes}
use Rattle.monitors.proofs.LinkLaws.{monitor_pushed, unheld}
use Rattle.monitors.proofs.SlotLaws.{counted_before, few_living}
use Rattle.monitors.proofs.locks.refile.Goals as goal
use Rattle.std.proofs.Common.{None, Some, [], ap, arith, get_or, length, refl, sym, take, ◌++◌, ◌<◌, ◌∙◌, ◌∷◌, ◌≡◌}
use Rattle.std.proofs.lemmas.Bool.{eq-eqb}
use Rattle.std.proofs.lemmas.List.{length-take-le, take_more}
use Rattle.lists.specs.Living.{living}

pub put-requires-clause-new : goal.put-requires-clause-new
put-requires-clause-new c =
    let slots = c.args.slots.now in
    let i = c.loop-slot.slot in
    let lock = c.in-Some.lock in
    let is : get_or slots i None ≡ Some lock = sym c.in-Some.ensures in
    let none : locks_on (living (take i slots)) lock.mon
    ≡ 0 = omega
    (arith, counted_before (is_lock lock.mon) slots i (ap (passes (is_lock lock.mon)) is ∙ eq-eqb lock.mon lock.mon refl), c.requires.once lock.mon) in
    rw c.key_of.ensures (unheld (take i slots) c.loop-slot.held c.loop-slot.invariant.by_monitor lock.mon none)

pub put-requires-clause-room : goal.put-requires-clause-room
put-requires-clause-room c =
    let slots = c.args.slots.now in
    let i = c.loop-slot.slot in
    let within : i < length slots = omega arith in
    let kept = c.loop-slot.invariant in
    omega (
      arith,
      kept.by_monitor.counted,
      few_living (take i slots),
      length-take-le i slots (omega (arith, within)),
      within,
      c.requires.held_cells,
      c.requires.held_room,
      kept.held_index,
    )

pub loop-slot-preserved : goal.loop-slot-preserved
loop-slot-preserved c =
    let slots = c.args.slots.now in
    let i = c.loop-slot.slot in
    let within : i < length slots = omega arith in
    let kept = c.loop-slot.invariant in
    let lock = c.in-Some.lock in
    let is : get_or slots i None ≡ Some lock = sym c.in-Some.ensures in
    let next = take_more slots i None within ∙ ap (λ o. take i slots ++ o ∷ []) is in
    record {
      by_monitor = rw next (monitor_pushed (take i slots) c.loop-slot.held kept.by_monitor c.put.new.self lock i lock.mon refl
          (sym (length-take-le i slots (omega (arith, within)))) (rw c.key_of.ensures at c.put.ensures.puts) c.put.ensures.count);
      by_owner = rw next c.file_owner.ensures.owners;
      capacity = c.file_owner.ensures.capacity ∙ kept.capacity;
      held_width = c.put.ensures.width ∙ kept.held_width;
      held_index = c.put.ensures.room ∙ kept.held_index;
      last_width = c.file_owner.ensures.width ∙ kept.last_width;
      last_index = c.file_owner.ensures.index_room ∙ kept.last_index;
    }
