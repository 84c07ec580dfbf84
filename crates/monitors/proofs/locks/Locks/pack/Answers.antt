use Rattle.monitors.proofs.SlotLaws.{all_closed, length-closed, living-closed}
use Rattle.monitors.proofs.locks.Locks.pack.Goals as goal
use Rattle.std.proofs.Common.{ap, arith, length, ◌∙◌}
use Rattle.lists.specs.Living.{living}

pub refile-requires-clause-whole : goal.refile-requires-clause-whole
refile-requires-clause-whole c = rw (c.deref.ensures.value, c.close_up.ensures.items) (all_closed c.args.self.now.slots.items)

pub refile-requires-clause-once : goal.refile-requires-clause-once
refile-requires-clause-once c = rw (c.deref.ensures.value, c.close_up.ensures.items, living-closed c.args.self.now.slots.items) c.requires.once

pub refile-requires-clause-links_fit : goal.refile-requires-clause-links_fit
refile-requires-clause-links_fit c = rw c.deref.ensures.value (omega (
  arith,
  ap length c.close_up.ensures.items,
  length-closed c.args.self.now.slots.items,
  c.requires.few,
  c.requires.places.links_fit,
  c.clear.ensures.capacity,
))

pub refile-requires-clause-held_cells : goal.refile-requires-clause-held_cells
refile-requires-clause-held_cells c = rw c.deref.ensures.value (omega (
  arith,
  ap length c.close_up.ensures.items,
  length-closed c.args.self.now.slots.items,
  c.requires.few,
  c.requires.places.held_cells,
  c.clear-2.ensures.width,
))

pub refile-requires-clause-last_cells : goal.refile-requires-clause-last_cells
refile-requires-clause-last_cells c = rw c.deref.ensures.value (omega (
  arith,
  ap length c.close_up.ensures.items,
  length-closed c.args.self.now.slots.items,
  c.requires.few,
  c.requires.places.last_cells,
  c.clear-3.ensures.width,
))

pub returns-clause-tied : goal.returns-clause-tied
returns-clause-tied c =
    let places = c.requires.places in
    record {
      by_monitor = rw c.deref.ensures.value at c.refile.ensures.by_monitor;
      by_owner = rw c.deref.ensures.value at c.refile.ensures.by_owner;
      within = omega (arith, ap length c.close_up.ensures.items, length-closed c.args.self.now.slots.items, c.requires.few);
      places = record {
        slots_fit = omega (arith, c.close_up.ensures.capacity, places.slots_fit);
        links_fit = omega (arith, c.refile.ensures.capacity, c.clear.ensures.capacity, places.links_fit);
        held_cells = omega (arith, c.refile.ensures.held_width, c.clear-2.ensures.width, places.held_cells);
        held_room = omega (arith, c.refile.ensures.held_width, c.refile.ensures.held_index, c.clear-2.ensures.width, c.clear-2.ensures.room, places.held_room);
        last_cells = omega (arith, c.refile.ensures.last_width, c.clear-3.ensures.width, places.last_cells);
        last_room = omega (arith, c.refile.ensures.last_width, c.refile.ensures.last_index, c.clear-3.ensures.width, c.clear-3.ensures.room, places.last_room);
        bound = places.bound;
      };
    }

pub returns-clause-locks : goal.returns-clause-locks
returns-clause-locks c = ap living c.close_up.ensures.items ∙ living-closed c.args.self.now.slots.items

pub returns-clause-closed : goal.returns-clause-closed
returns-clause-closed c = ap length c.close_up.ensures.items ∙ length-closed c.args.self.now.slots.items
