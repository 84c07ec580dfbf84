use Rattle.lwp_types.specs.MonitorRelease.{locks_on}
use Rattle.monitors.proofs.LinkLaws.{monitor_pushed, unheld}
use Rattle.monitors.proofs.SlotLaws.{living-push}
use Rattle.monitors.proofs.locks.Locks.acquire.Goals as goal
use Rattle.std.proofs.Common.{Some, [], ap, arith, length, refl, ◌++◌, ◌∙◌, ◌∷◌}
use Rattle.std.proofs.lemmas.List.{length_push}
use Rattle.lists.specs.Living.{living}

pub put-requires-clause-new : goal.put-requires-clause-new
put-requires-clause-new c =
    let l = c.make_slot.new.self in
    let mon = c.args.lock.now.mon in
    rw c.key_of.ensures (unheld l.slots.items l.held c.make_slot.ensures.tied.by_monitor mon
    (ap (λ ls. locks_on ls mon) c.make_slot.ensures.locks ∙ c.requires.free))

pub returns-clause-tied : goal.returns-clause-tied
returns-clause-tied c =
    let l = c.make_slot.new.self in
    let slots = l.slots.items in
    let was = c.make_slot.ensures.tied in
    let lock = c.args.lock.now in
    let pushed = c.push_reserved.ensures.items in
    record {
      by_monitor = rw pushed (monitor_pushed slots l.held was.by_monitor c.put.new.self lock c.len-slot.result lock.mon refl
          (omega (arith, c.len-slot.ensures)) (rw c.key_of.ensures at c.put.ensures.puts) c.put.ensures.count);
      by_owner = rw pushed (rw c.deref.ensures.value at c.file_owner.ensures.owners);
      within = omega (arith, ap length pushed, length_push slots (Some lock), c.make_slot.ensures.slot);
      places = record {
        slots_fit = omega (arith, c.push_reserved.ensures.capacity, was.places.slots_fit);
        links_fit = omega (arith, c.file_owner.ensures.capacity, was.places.links_fit);
        held_cells = omega (arith, c.put.ensures.width, was.places.held_cells);
        held_room = omega (arith, c.put.ensures.width, c.put.ensures.room, was.places.held_room);
        last_cells = omega (arith, c.file_owner.ensures.width, was.places.last_cells);
        last_room = omega (arith, c.file_owner.ensures.width, c.file_owner.ensures.index_room, was.places.last_room);
        bound = was.places.bound;
      };
    }

pub returns-clause-locks : goal.returns-clause-locks
returns-clause-locks c =
    let lock = c.args.lock.now in
    ap living c.push_reserved.ensures.items ∙ living-push c.make_slot.new.self.slots.items (Some lock) ∙ ap (λ ls. ls ++ lock ∷ []) c.make_slot.ensures.locks
