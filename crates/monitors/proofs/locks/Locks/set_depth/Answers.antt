use Rattle.lwp_types.specs.MonitorRelease.{is_lock, is_owned_by}
use Rattle.monitors.proofs.LinkLaws.{monitor_as, owner_as}
use Rattle.monitors.proofs.SlotLaws.{count_deepened, deep_none, has_deepened, length_deepened, living_deepened}
use Rattle.monitors.proofs.locks.Locks.set_depth.Goals as goal
use Rattle.monitors.specs.Slots.{IsSlotOf, deeper}
use Rattle.std.proofs.Common.{None, ap, arith, get_or, length, option_map, refl, set, subst, sym, ◌∙◌}
use Rattle.std.proofs.lemmas.List.{length-set}
use Rattle.lists.specs.Living.{living}

pub returns-in-Some-clause-tied : goal.returns-in-Some-clause-tied
returns-in-Some-clause-tied c =
    let was = c.requires.tied in
    let l = c.args.self.now in
    let slots = l.slots.items in
    let i = c.in-Some.slot in
    let deep = option_map (deeper c.args.depth) (get_or slots i None) in
    let len = length-set slots i deep in
    record {
      by_monitor = rw c.deepen.ensures.items (monitor_as slots (set slots i deep) l.held (λ k j. has_deepened (is_lock k) (λ d x. refl)
          c.args.depth slots i j) (λ k. count_deepened (is_lock k) (λ d x. refl) c.args.depth slots i) (length_deepened c.args.depth slots i) was.by_monitor);
      by_owner = rw c.deepen.ensures.items
          (owner_as slots (set slots i deep) l.links.items l.last len (λ t j. has_deepened (is_owned_by t) (λ d x. refl) c.args.depth slots i j) was.by_owner);
      within = omega (arith, ap length c.deepen.ensures.items, len, was.within);
      places = record {
        slots_fit = omega (arith, c.deepen.ensures.capacity, was.places.slots_fit);
        links_fit = was.places.links_fit;
        held_cells = was.places.held_cells;
        held_room = was.places.held_room;
        last_cells = was.places.last_cells;
        last_room = was.places.last_room;
        bound = was.places.bound;
      };
    }

pub returns-in-Some-clause-locks : goal.returns-in-Some-clause-locks
returns-in-Some-clause-locks c =
    let l = c.args.self.now in
    let place = rw c.key_of.ensures at c.in-Some.ensures in
    let passed = subst (IsSlotOf l.slots.items c.args.mon) (sym place) (c.requires.tied.by_monitor.each c.args.mon) in
    ap living c.deepen.ensures.items ∙ living_deepened c.args.mon c.args.depth l.slots.items c.in-Some.slot (c.requires.once c.args.mon) passed

pub returns-in_default-clause-locks : goal.returns-in_default-clause-locks
returns-in_default-clause-locks c =
    let l = c.args.self.now in
    let place = rw c.key_of.ensures at c.in_default.ensures in
    sym (deep_none c.args.mon c.args.depth (living l.slots.items)
    (subst (IsSlotOf l.slots.items c.args.mon) (sym place) (c.requires.tied.by_monitor.each c.args.mon)))
