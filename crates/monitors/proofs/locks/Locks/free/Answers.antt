use Rattle.lwp_types.specs.MonitorRelease.{is_lock, locks_on}
use Rattle.lwp_types.specs.State.{passes}
use Rattle.monitors.proofs.LinkLaws.{monitor_as, monitor_emptied}
use Rattle.monitors.proofs.SlotLaws.{has_cut, living-cut, living_freed, without_none}
use Rattle.monitors.proofs.locks.Locks.free.Goals as goal
use Rattle.monitors.specs.Slots.{IsSlotOf}
use Rattle.std.proofs.Common.{None, Some, ap, arith, get_or, length, set, subst, suc, sym, take, ◌∙◌, ◌≡◌}
use Rattle.std.proofs.lemmas.Bool.{eqb-true}
use Rattle.std.proofs.lemmas.List.{length-set, length-take-le}
use Rattle.lists.specs.Living.{living}

pub returns-in_default-clause-locks : goal.returns-in_default-clause-locks
returns-in_default-clause-locks c =
    let l = c.args.self.now in
    let place = rw c.key_of.ensures at c.in_default.ensures in
    sym (without_none c.args.mon (living l.slots.items) (subst (IsSlotOf l.slots.items c.args.mon) (sym place) (c.requires.tied.by_monitor.each c.args.mon)))

pub returns-then-slot-len-clause-tied : goal.returns-then-slot-len-clause-tied
returns-then-slot-len-clause-tied c =
    let l = c.args.self.now in
    let was = c.requires.tied in
    let slots = l.slots.items in
    let i = c.in-Some.slot in
    let lock = c.in-Some-lock_at.lock in
    let place = rw c.key_of.ensures at c.in-Some.ensures in
    let passed = subst (IsSlotOf slots c.args.mon) (sym place) (was.by_monitor.each c.args.mon) in
    let is : get_or slots i None ≡ Some lock = sym (rw c.deref.ensures.value at c.in-Some-lock_at.ensures) in
    let its = eqb-true lock.mon c.args.mon (sym (ap (passes (is_lock c.args.mon)) is) ∙ passed) in
    let last : suc i ≡ length slots = omega (arith, c.len.ensures) in
    let emptied = monitor_emptied slots l.held was.by_monitor c.take.new.self i c.args.mon lock is its (c.requires.once c.args.mon)
    (rw c.key_of-2.ensures at c.take.ensures.puts) c.take.ensures.count in
    record {
      by_monitor = rw c.cut.ensures.items (monitor_as (set slots i None) (take i slots) c.take.new.self
          (λ k. has_cut (is_lock k) slots i last) (λ k. ap (λ ls. locks_on ls k) (living-cut slots i last)) (ap length (living-cut slots i last)) emptied);
      by_owner = c.cut.ensures.owners;
      within = omega (arith, ap length c.cut.ensures.items, length-take-le i slots (omega (arith, last)), last, was.within);
      places = record {
        slots_fit = omega (arith, c.cut.ensures.capacity, was.places.slots_fit);
        links_fit = omega (arith, c.cut.ensures.links_capacity, was.places.links_fit);
        held_cells = omega (arith, c.take.ensures.width, was.places.held_cells);
        held_room = omega (arith, c.take.ensures.width, c.take.ensures.room, was.places.held_room);
        last_cells = omega (arith, c.cut.ensures.width, was.places.last_cells);
        last_room = omega (arith, c.cut.ensures.width, c.cut.ensures.index_room, was.places.last_room);
        bound = was.places.bound;
      };
    }

pub returns-then-slot-len-clause-locks : goal.returns-then-slot-len-clause-locks
returns-then-slot-len-clause-locks c =
    let slots = c.args.self.now.slots.items in
    let i = c.in-Some.slot in
    let place = rw c.key_of.ensures at c.in-Some.ensures in
    let passed = subst (IsSlotOf slots c.args.mon) (sym place) (c.requires.tied.by_monitor.each c.args.mon) in
    let last : suc i ≡ length slots = omega (arith, c.len.ensures) in
    ap living c.cut.ensures.items ∙ living-cut slots i last ∙ living_freed c.args.mon slots i (c.requires.once c.args.mon) passed

pub returns-else-slot-len-clause-tied : goal.returns-else-slot-len-clause-tied
returns-else-slot-len-clause-tied c =
    let l = c.args.self.now in
    let was = c.requires.tied in
    let slots = l.slots.items in
    let i = c.in-Some.slot in
    let lock = c.in-Some-lock_at.lock in
    let place = rw c.key_of.ensures at c.in-Some.ensures in
    let passed = subst (IsSlotOf slots c.args.mon) (sym place) (was.by_monitor.each c.args.mon) in
    let is : get_or slots i None ≡ Some lock = sym (rw c.deref.ensures.value at c.in-Some-lock_at.ensures) in
    let its = eqb-true lock.mon c.args.mon (sym (ap (passes (is_lock c.args.mon)) is) ∙ passed) in
    record {
      by_monitor = rw c.empty.ensures.items (monitor_emptied slots l.held was.by_monitor c.take.new.self i c.args.mon lock is its
          (c.requires.once c.args.mon) (rw c.key_of-2.ensures at c.take.ensures.puts) c.take.ensures.count);
      by_owner = rw c.deref-else-slot-len.ensures.value at c.empty.ensures.owners;
      within = omega (arith, ap length c.empty.ensures.items, length-set slots i None, was.within);
      places = record {
        slots_fit = omega (arith, c.empty.ensures.capacity, was.places.slots_fit);
        links_fit = was.places.links_fit;
        held_cells = omega (arith, c.take.ensures.width, was.places.held_cells);
        held_room = omega (arith, c.take.ensures.width, c.take.ensures.room, was.places.held_room);
        last_cells = omega (arith, c.empty.ensures.width, was.places.last_cells);
        last_room = omega (arith, c.empty.ensures.width, c.empty.ensures.index_room, was.places.last_room);
        bound = was.places.bound;
      };
    }

pub returns-else-slot-len-clause-locks : goal.returns-else-slot-len-clause-locks
returns-else-slot-len-clause-locks c =
    let slots = c.args.self.now.slots.items in
    let place = rw c.key_of.ensures at c.in-Some.ensures in
    let passed = subst (IsSlotOf slots c.args.mon) (sym place) (c.requires.tied.by_monitor.each c.args.mon) in
    ap living c.empty.ensures.items ∙ living_freed c.args.mon slots c.in-Some.slot (c.requires.once c.args.mon) passed
