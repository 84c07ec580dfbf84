-- One thread more is known.
use Rattle.pod_sched.specs.Buckets.Order.{Order, after_put_last, prio_of}
use Rattle.lists.specs.ChainLists.{Lists, after_move_to_back, items}
use Rattle.lwp_types.specs.State.{without}
use Rattle.pod_sched.proofs.HeldLemmas.{thread_at}
use Rattle.pod_sched.proofs.LeaveLemmas.{AreSlots-admitted, items_moved_other, items_moved_same, known_same, lists_moved}
use Rattle.pod_sched.proofs.LeaveLemmas.{ready_joined, ready_kept, rows_admitted, slot_free, tids_joined, tids_stay}
use Rattle.pod_sched.proofs.Ordered.{IsOrdered-admitted}
use Rattle.pod_sched.proofs.SlotLemmas.{All-push}
use Rattle.pod_sched.specs.Held.{IsHeld, IsPriority, schedule_of, tid_at}
use Rattle.pod_sched.specs.Schedule.{IsOrdered, after_admit, is_of, knows, newcomer}
use Rattle.lists.specs.ThreadIndex.{Puts}
use Rattle.pod_sched.specs.Slots.{AreSlots, Changes, IsFree, row_at}
use Rattle.pod_sched.specs.declared.rows.Known.{Known}
use Rattle.std.proofs.Common.{Bool, List, None, Option, Some, [], ap, arith, cond, false, get_or-set_other, get_or-set_same, is_some, length, length-set}
use Rattle.std.proofs.Common.{map, option_map, refl, slice_get, subst, sym, true, ℕ, ◌++◌, ◌+◌, ◌-◌, ◌<◌, ◌∙◌, ◌∷◌, ◌≡◌, ◌≢◌, ◌≤◌}
use Rattle.std.proofs.lemmas.List.{length-map, length_push}
use Rattle.std.specs.List.{AllByRecursion, find}

module _ (slots : Lists) (order : Order) (rows : List Known) (slot_of : ℕ → Option ℕ) (map_len room width maxpri places : ℕ)
    (held : IsHeld slots order rows slot_of map_len room width maxpri places) (t : ℕ)
    (new_thread : knows (schedule_of slots order rows maxpri places) t ≡ false) where
  pub unknown : slot_of t ≡ None
  unknown = by_case (slot_of t) (ap is_some (sym (thread_at slots order rows slot_of map_len room width maxpri places held t)) ∙ new_thread)
    where
      by_case : (o : Option ℕ) → is_some (option_map (row_at rows) o) ≡ false → o ≡ None
      by_case None is = refl
      by_case (Some s) is = absurd (cc)

  not_found : find (is_of t) (map (row_at rows) (items slots 0)) ≡ None
  not_found = thread_at slots order rows slot_of map_len room width maxpri places held t ∙ ap (option_map (row_at rows)) unknown

  module _ (room_left : length (map (row_at rows) (items slots 0)) < places) where
    pub map_fits : map_len < room
    map_fits = omega (arith, held.as_long, held.map_room, room_left, length-map (items slots 0) (row_at rows))

    -- a slot is free
    pub some_free : slice_get (items slots 1) 0 ≢ None
    some_free = by_case (items slots 1) (omega (arith, held.are_slots.count, room_left, length-map (items slots 0) (row_at rows)))
      where
        by_case : (xs : List ℕ) → 0 < length xs → slice_get xs 0 ≢ None
        by_case [] some none = absurd (omega arith)
        by_case (x ∷ xs) some none = absurd (cc)

    module _ (slot : ℕ) (first : slice_get (items slots 1) 0 ≡ Some slot) where
      is_free : IsFree places slot
      is_free = slot_free places (items slots 1) slot held.are_slots.are_free first

      pub free_is_slot : 256 ≤ slot
      free_is_slot = is_free.is_slot

      pub free_in_rows : slot < 256 + length rows
      free_in_rows = omega (arith, is_free.in_range, held.row_room)

      pub free_is_key : order.levels ≤ slot
      free_is_key = omega (arith, is_free.is_slot, held.levels)

      pub free_in_limit : slot < order.levels + length order.prios
      free_in_limit = omega (arith, is_free.in_range, held.levels, held.order_room)

      module _ (rows' : List Known) (len : length rows' ≡ length rows) (prio : ℕ) (suspended : Bool)
          (changes : Changes (row_at rows) (row_at rows') slot (newcomer t prio suspended)) (prio_least : 1 ≤ prio)
          (prio_most : prio ≤ maxpri) (slot_of' : ℕ → Option ℕ) (puts : Puts slot_of slot_of' t (Some slot)) (map_len' room' : ℕ)
          (longer : map_len' ≡ map_len + 1) (same_room : room' ≡ room) where
        known_now : items (after_move_to_back slots 0 slot) 0 ≡ items slots 0 ++ slot ∷ []
        known_now =
            items_moved_same slots 0 slot (omega (arith, held.lists))
            ∙ ap (λ xs. xs ++ slot ∷ []) (known_same (row_at rows) (row_at rows') (items slots 0) (items slots 1) slot_of slot_of' places
            held.are_slots t slot unknown first (newcomer t prio suspended) changes refl puts)

        free_now : items (after_move_to_back slots 0 slot) 1 ≡ without slot (items slots 1)
        free_now = items_moved_other slots 0 slot (omega (arith, held.lists)) 1 (omega (arith, held.lists)) (λ same. absurd (omega arith))

        slots_now : AreSlots (row_at rows') (items slots 0 ++ slot ∷ []) (without slot (items slots 1)) slot_of' places
        slots_now = AreSlots-admitted (row_at rows) (row_at rows') (items slots 0) (items slots 1) slot_of slot_of' places held.are_slots t
            slot unknown first (newcomer t prio suspended) changes refl puts

        threads_now : map (row_at rows') (items slots 0 ++ slot ∷ []) ≡ map (row_at rows) (items slots 0) ++ newcomer t prio suspended ∷ []
        threads_now = rows_admitted (row_at rows) (row_at rows') (items slots 0) (items slots 1) slot_of slot_of' places held.are_slots t
            slot unknown first (newcomer t prio suspended) changes refl puts

        tids_out : map (tid_at rows') order.order ≡ map (tid_at rows) order.order
        tids_out = tids_stay (row_at rows) (row_at rows') (items slots 0) (items slots 1) slot_of slot_of' places held.are_slots t slot
            unknown first (newcomer t prio suspended) changes refl puts (prio_of order) (prio_of order) order.order held.ready (λ s is differs. refl)

        weights : (s : ℕ) → 256 ≤ s → s ≢ slot → prio_of (after_put_last order slot prio) s ≡ prio_of order s
        weights s s_slot differs =
            get_or-set_other order.prios (slot - order.levels) (s - order.levels) prio 0 (λ same. differs (omega (arith, same, is_free.is_slot, held.levels)))

        tids_in : map (tid_at rows') (without slot order.order ++ slot ∷ []) ≡ map (tid_at rows) order.order ++ t ∷ []
        tids_in = tids_joined (row_at rows) (row_at rows') (items slots 0) (items slots 1) slot_of slot_of' places held.are_slots t slot
            unknown first (newcomer t prio suspended) changes refl puts (prio_of order) (prio_of (after_put_last order slot prio))
            order.order held.ready weights

        priorities_now : AllByRecursion (λ (row : Known). IsPriority maxpri row.prio) (map (row_at rows) (items slots 0) ++ newcomer t prio suspended ∷ [])
        priorities_now = All-push (λ (row : Known). IsPriority maxpri row.prio) (map (row_at rows) (items slots 0))
            (newcomer t prio suspended) held.priorities (record { least = prio_least; most = prio_most })

        ordered_now : IsOrdered (map (row_at rows) (items slots 0) ++ newcomer t prio suspended ∷ [])
            (cond suspended (map (tid_at rows) order.order) (map (tid_at rows) order.order ++ t ∷ []))
        ordered_now = IsOrdered-admitted _ _ held.ordered t prio suspended not_found

        pub view_out : suspended ≡ true
            → schedule_of (after_move_to_back slots 0 slot) order rows' maxpri places
            ≡ after_admit (schedule_of slots order rows maxpri places) t prio suspended
        view_out held_back =
            rw (known_now, threads_now, tids_out) (ap (λ b. record {
              threads = map (row_at rows) (items slots 0) ++ newcomer t prio suspended ∷ [];
              order = cond b (map (tid_at rows) order.order) (map (tid_at rows) order.order ++ t ∷ []);
              timers = [];
              now = 0;
              maxpri = maxpri;
              places = places;
            }) (sym
            held_back))

        pub view_in : suspended ≡ false
            → schedule_of (after_move_to_back slots 0 slot) (after_put_last order slot prio) rows' maxpri places
            ≡ after_admit (schedule_of slots order rows maxpri places) t prio suspended
        view_in joins =
            rw (known_now, threads_now, tids_in) (ap (λ b. record {
              threads = map (row_at rows) (items slots 0) ++ newcomer t prio suspended ∷ [];
              order = cond b (map (tid_at rows) order.order) (map (tid_at rows) order.order ++ t ∷ []);
              timers = [];
              now = 0;
              maxpri = maxpri;
              places = places;
            }) (sym
            joins))

        pub IsHeld-out : suspended ≡ true → IsHeld (after_move_to_back slots 0 slot) order rows' slot_of' map_len' room' width maxpri places
        IsHeld-out held_back = record {
          lists = lists_moved slots 0 slot (omega (arith, held.lists)) ∙ held.lists;
          slot_room = held.slot_room;
          levels = held.levels;
          order_room = held.order_room;
          row_room = omega (arith, held.row_room, len);
          as_long = omega (arith, held.as_long, longer, ap length known_now, length_push (items slots 0) slot);
          map_room = omega (arith, held.map_room, same_room);
          some_cells = held.some_cells;
          least = held.least;
          most = held.most;
          priorities = rw (known_now, threads_now) priorities_now;
          are_slots = rw (known_now, free_now) slots_now;
          ready = rw known_now (ready_kept (row_at rows) (row_at rows') (items slots 0) (items slots 1) slot_of slot_of' places
              held.are_slots t slot unknown first (newcomer t prio suspended) changes refl puts (prio_of order) (prio_of order) order.order
              held.ready (λ s is differs. refl));
          ordered = rw (known_now, threads_now, tids_out)
              (subst (IsOrdered (map (row_at rows) (items slots 0) ++ newcomer t prio suspended ∷ []))
              (ap (λ b. cond b (map (tid_at rows) order.order) (map (tid_at rows) order.order ++ t ∷ [])) held_back) ordered_now);
        }

        pub IsHeld-in : suspended ≡ false
            → IsHeld (after_move_to_back slots 0 slot) (after_put_last order slot prio) rows' slot_of' map_len' room' width maxpri places
        IsHeld-in joins = record {
          lists = lists_moved slots 0 slot (omega (arith, held.lists)) ∙ held.lists;
          slot_room = held.slot_room;
          levels = held.levels;
          order_room = omega (arith, held.order_room, length-set order.prios (slot - order.levels) prio);
          row_room = omega (arith, held.row_room, len);
          as_long = omega (arith, held.as_long, longer, ap length known_now, length_push (items slots 0) slot);
          map_room = omega (arith, held.map_room, same_room);
          some_cells = held.some_cells;
          least = held.least;
          most = held.most;
          priorities = rw (known_now, threads_now) priorities_now;
          are_slots = rw (known_now, free_now) slots_now;
          ready = rw known_now (ready_joined (row_at rows) (row_at rows') (items slots 0) (items slots 1) slot_of slot_of' places
              held.are_slots t slot unknown first (newcomer t prio suspended) changes refl puts (prio_of order)
              (prio_of (after_put_last order slot prio)) order.order held.ready weights
              (get_or-set_same order.prios (slot - order.levels) prio 0 (omega (arith, free_is_key, free_in_limit))));
          ordered = rw (known_now, threads_now, tids_in)
              (subst (IsOrdered (map (row_at rows) (items slots 0) ++ newcomer t prio suspended ∷ []))
              (ap (λ b. cond b (map (tid_at rows) order.order) (map (tid_at rows) order.order ++ t ∷ [])) joins) ordered_now);
        }
