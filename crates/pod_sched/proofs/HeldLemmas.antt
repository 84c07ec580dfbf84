-- Each change of the fields of `Sched` leaves its invariant, and the schedule changed as said.
use Rattle.pod_sched.specs.Buckets.Order.{Order, after_put_last, after_take, prio_of}
use Rattle.lists.specs.ChainLists.{Lists, items}
use Rattle.lwp_types.specs.State.{to_end, without}
use Rattle.pod_sched.proofs.SlotLemmas.{All-found, All-replaced, AreSlots-changed, IsOrdered-back_with, IsOrdered-out_with, find-map}
use Rattle.pod_sched.proofs.SlotLemmas.{ready_back, ready_out, rows_changed, slot_known, slot_tid, tids_back, tids_out}
use Rattle.pod_sched.specs.Held.{IsHeld, IsPriority, back_with, out_with, replace, schedule_of, tid_at}
use Rattle.pod_sched.specs.Schedule.{is_eligible, is_of, knows, thread_of}
use Rattle.pod_sched.specs.Slots.{AreSlots, Changes, IsKnown, row_at}
use Rattle.pod_sched.specs.declared.rows.Known.{Known}
use Rattle.std.proofs.Common.{IsSome, List, None, Option, Some, [], ap, arith, false, get_or-set_other, get_or-set_same, is_some, length}
use Rattle.std.proofs.Common.{length-set, map, option_map, refl, sym, true, ℕ, ◌++◌, ◌+◌, ◌-◌, ◌<◌, ◌∙◌, ◌∷◌, ◌≡◌, ◌≢◌, ◌≤◌}
use Rattle.std.specs.List.{AllByRecursion}

module _ (slots : Lists) (order : Order) (rows : List Known) (slot_of : ℕ → Option ℕ) (map_len room width maxpri places : ℕ)
    (held : IsHeld slots order rows slot_of map_len room width maxpri places) where
  pub thread_at : (t : ℕ) → thread_of (schedule_of slots order rows maxpri places) t ≡ option_map (row_at rows) (slot_of t)
  thread_at t = find-map (row_at rows) t (items slots 0) ∙ ap (option_map (row_at rows)) (sym (held.are_slots.index t))

  pub known_at : (t : ℕ) → knows (schedule_of slots order rows maxpri places) t ≡ true → IsSome (slot_of t)
  known_at t known = by_case (slot_of t) (ap is_some (sym (thread_at t)) ∙ known)
    where
      by_case : (o : Option ℕ) → is_some (option_map (row_at rows) o) ≡ true → IsSome o
      by_case None is = absurd (cc)
      by_case (Some s) is = refl

  module _ (t slot : ℕ) (at : slot_of t ≡ Some slot) where
    place : IsKnown (row_at rows) (items slots 0) places slot
    place = slot_known (row_at rows) (row_at rows) (items slots 0) (items slots 1) slot_of places held.are_slots t slot at

    pub is_slot : 256 ≤ slot
    is_slot = place.is_slot

    pub in_rows : slot < 256 + length rows
    in_rows = omega (arith, place.in_range, held.row_room)

    pub is_key : order.levels ≤ slot
    is_key = omega (arith, place.is_slot, held.levels)

    pub in_limit : slot < order.levels + length order.prios
    in_limit = omega (arith, place.in_range, held.levels, held.order_room)

    pub in_slots : slot < slots.limit
    in_slots = omega (arith, place.in_range, held.slot_room)

    pub thread : thread_of (schedule_of slots order rows maxpri places) t ≡ Some (row_at rows slot)
    thread = thread_at t ∙ ap (option_map (row_at rows)) at

    pub of_thread : (row_at rows slot).tid ≡ t
    of_thread = slot_tid (row_at rows) (row_at rows) (items slots 0) (items slots 1) slot_of places held.are_slots t slot at

    pub has_priority : IsPriority maxpri (row_at rows slot).prio
    has_priority = All-found (is_of t) (λ (row : Known). IsPriority maxpri row.prio) (map (row_at rows) (items slots 0)) (row_at rows slot)
        held.priorities thread

    pub prio_low : (row_at rows slot).prio < 256
    prio_low = omega (arith, has_priority.most, held.most)

    module _ (rows' : List Known) (len : length rows' ≡ length rows) (new : Known) (changes : Changes (row_at rows) (row_at rows') slot new)
        (same_tid : new.tid ≡ t) where
      threads_changed : map (row_at rows') (items slots 0) ≡ map (replace t new) (map (row_at rows) (items slots 0))
      threads_changed = rows_changed (row_at rows) (row_at rows') (items slots 0) (items slots 1) slot_of places held.are_slots t slot at new changes same_tid

      slots_changed : AreSlots (row_at rows') (items slots 0) (items slots 1) slot_of places
      slots_changed = AreSlots-changed (row_at rows) (row_at rows') (items slots 0) (items slots 1) slot_of places held.are_slots t slot at new changes same_tid

      priorities_changed : IsPriority maxpri new.prio → AllByRecursion (λ (row : Known). IsPriority maxpri row.prio) (map (row_at rows') (items slots 0))
      priorities_changed in_range =
          rw threads_changed (All-replaced (λ (row : Known). IsPriority maxpri row.prio) t new in_range (map (row_at rows) (items slots 0)) held.priorities)

      out_tids : map (tid_at rows') (without slot order.order) ≡ without t (map (tid_at rows) order.order)
      out_tids = tids_out (row_at rows) (row_at rows') (items slots 0) (items slots 1) slot_of places held.are_slots t slot at new changes
          same_tid (prio_of order) (prio_of order) order.order held.ready (λ s s_slot differs. refl)

      pub view_out : schedule_of slots (after_take order slot) rows' maxpri places ≡ out_with (schedule_of slots order rows maxpri places) t new
      view_out = rw (threads_changed, out_tids) refl

      pub IsHeld-out : IsPriority maxpri new.prio → is_eligible new ≡ false
          → IsHeld slots (after_take order slot) rows' slot_of map_len room width maxpri places
      IsHeld-out in_range out = record {
        lists = held.lists;
        slot_room = held.slot_room;
        levels = held.levels;
        order_room = held.order_room;
        row_room = omega (arith, held.row_room, len);
        as_long = held.as_long;
        map_room = held.map_room;
        some_cells = held.some_cells;
        least = held.least;
        most = held.most;
        priorities = priorities_changed in_range;
        are_slots = slots_changed;
        ready = ready_out (row_at rows) (row_at rows') (items slots 0) (items slots 1) slot_of places held.are_slots t slot at new changes
            same_tid (prio_of order) (prio_of order) order.order held.ready (λ s s_slot differs. refl);
        ordered = rw (threads_changed, out_tids) (IsOrdered-out_with _ _ held.ordered t (row_at rows slot) thread new same_tid out);
      }

      weighs : prio_of (after_put_last order slot new.prio) slot ≡ new.prio
      weighs = get_or-set_same order.prios (slot - order.levels) new.prio 0 (omega (arith, is_key, in_limit))

      weights : (s : ℕ) → 256 ≤ s → s ≢ slot → prio_of (after_put_last order slot new.prio) s ≡ prio_of order s
      weights s s_slot differs =
          get_or-set_other order.prios (slot - order.levels) (s - order.levels) new.prio 0 (λ same. differs (omega (arith, same, is_slot, held.levels)))

      back_tids : map (tid_at rows') (without slot order.order ++ slot ∷ []) ≡ to_end t (map (tid_at rows) order.order)
      back_tids = tids_back (row_at rows) (row_at rows') (items slots 0) (items slots 1) slot_of places held.are_slots t slot at new changes
          same_tid (prio_of order) (prio_of (after_put_last order slot new.prio)) order.order held.ready weights

      pub view_back : schedule_of slots (after_put_last order slot new.prio) rows' maxpri places ≡ back_with (schedule_of slots order rows maxpri places) t new
      view_back = rw (threads_changed, back_tids) refl

      pub IsHeld-back : IsPriority maxpri new.prio → is_eligible new ≡ true
          → IsHeld slots (after_put_last order slot new.prio) rows' slot_of map_len room width maxpri places
      IsHeld-back in_range runs = record {
        lists = held.lists;
        slot_room = held.slot_room;
        levels = held.levels;
        order_room = omega (arith, held.order_room, length-set order.prios (slot - order.levels) new.prio);
        row_room = omega (arith, held.row_room, len);
        as_long = held.as_long;
        map_room = held.map_room;
        some_cells = held.some_cells;
        least = held.least;
        most = held.most;
        priorities = priorities_changed in_range;
        are_slots = slots_changed;
        ready = ready_back (row_at rows) (row_at rows') (items slots 0) (items slots 1) slot_of places held.are_slots t slot at new changes
            same_tid (prio_of order) (prio_of (after_put_last order slot new.prio)) order.order held.ready weights weighs;
        ordered = rw (threads_changed, back_tids) (IsOrdered-back_with _ _ held.ordered t (row_at rows slot) thread new same_tid runs);
      }
