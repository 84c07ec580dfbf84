-- More places.
use Rattle.pod_sched.specs.Buckets.Order.{Order, prio_of, with_keys}
use Rattle.lists.proofs.ChainPushes.{length-pushed}
use Rattle.lists.specs.ChainLists.{Lists, items, with_limit}
use Rattle.lwp_types.specs.CountLaws.{count-cons, count-push, one}
use Rattle.lwp_types.specs.State.{times_in, without}
use Rattle.pod_sched.proofs.Counts.{one_other, one_same, times-same}
use Rattle.pod_sched.proofs.LeaveLemmas.{items_moved_other, items_moved_same, lists_moved}
use Rattle.pod_sched.proofs.SlotLemmas.{All-found, All-push, All-weaker, find_agree, tids_same, without_none}
use Rattle.pod_sched.specs.Held.{IsHeld, schedule_of, tid_at}
use Rattle.pod_sched.specs.Schedule.{after_reserve}
use Rattle.pod_sched.specs.Slots.{AreListed, AreSlots, Extends, IsFree, IsKnown, IsListed, IsReady, after_free, has_tid, row_at}
use Rattle.pod_sched.specs.declared.rows.Known.{Known}
use Rattle.std.proofs.Common.{List, Err, Ok, OnErr, Option, Result, Some, [], ap, arith, eqb, get_or, inl, inr, length, map}
use Rattle.std.proofs.Common.{max, refl, replicate, subst, suc, sym, zero, ℕ, ◌++◌, ◌+◌, ◌-◌, ◌<◌, ◌∙◌, ◌∷◌, ◌≡◌, ◌≤◌}
use Rattle.std.proofs.lemmas.Bool.{cases_eq, cases_lt, ne_eqb}
use Rattle.std.proofs.lemmas.List.{get_or-append_right, get_or-replicate, get_or_append_left, get_or_past}
use Rattle.std.proofs.lemmas.List.{length-append, length-map, length-replicate, length_push}
use Rattle.std.specs.List.{AllByRecursion, find}

-- no list has a number beyond all of its own
times_beyond : (m : ℕ) (xs : List ℕ) → AllByRecursion (λ s. s < m) xs → times_in xs m ≡ 0
times_beyond m [] all = refl
times_beyond m (x ∷ xs) all =
    omega (arith, count-cons (λ v. eqb v m) x xs, ap one (ne_eqb x m (λ same. absurd (omega (arith, same, all.0)))), times_beyond m xs all.1)

-- the new slots are free
module _ (row : ℕ → Known) (known free : List ℕ) (slot_of : ℕ → Option ℕ) (places : ℕ) (slots : AreSlots row known free slot_of places) where
  beyond_known : times_in known (256 + places) ≡ 0
  beyond_known = times_beyond (256 + places) known (All-weaker (IsKnown row known places) _ (λ s is. is.in_range) known slots.are_known)

  beyond_free : times_in free (256 + places) ≡ 0
  beyond_free = times_beyond (256 + places) free (All-weaker (IsFree places) _ (λ s is. is.in_range) free slots.are_free)

  AreSlots-one_more : AreSlots row (without (256 + places) known) (without (256 + places) free ++ (256 + places) ∷ []) slot_of (places + 1)
  AreSlots-one_more = rw (without_none (256 + places) known beyond_known, without_none (256 + places) free beyond_free) (record {
    once = λ s. elim (cases_eq s (256 + places)) [
      | inl same
          ↦ omega (
            arith,
            times-same known (256 + places) s same,
            times-same (free ++ (256 + places) ∷ []) (256 + places) s same,
            count-push (λ v. eqb v (256 + places)) free (256 + places),
            one_same (256 + places),
            beyond_known,
            beyond_free,
          )
      | inr differs ↦ omega (arith, slots.once s, count-push (λ v. eqb v s) free (256 + places), one_other (256 + places) s differs)
    ];
    count = omega (arith, slots.count, length_push free (256 + places));
    are_known = All-weaker (IsKnown row known places) (IsKnown row known (places + 1))
        (λ s is. record { is_slot = is.is_slot; in_range = omega (arith, is.in_range); found = is.found }) known slots.are_known;
    are_free = All-push (IsFree (places + 1)) free (256 + places)
        (All-weaker (IsFree places) (IsFree (places + 1)) (λ s is. record { is_slot = is.is_slot; in_range = omega (arith, is.in_range) }) free slots.are_free)
        (record { is_slot = omega arith; in_range = omega arith });
    index = slots.index;
  })

  known_one_more : without (256 + places) known ≡ known
  known_one_more = without_none (256 + places) known beyond_known

pub freed_lists : (slots : Lists) (from n : ℕ) → length (after_free slots from n).lists ≡ length slots.lists
freed_lists slots from zero = refl
freed_lists slots from (suc n) =
    length-pushed 1 (from + n) (map (without (from + n)) (after_free slots from n).lists)
    ∙ length-map (after_free slots from n).lists (without (from + n)) ∙ freed_lists slots from n

pub freed_limit : (slots : Lists) (from n : ℕ) → (after_free slots from n).limit ≡ slots.limit
freed_limit slots from zero = refl
freed_limit slots from (suc n) = freed_limit slots from n

-- what so many further slots make of the lists
record Freed (slots slots' : Lists) (row : ℕ → Known) (slot_of : ℕ → Option ℕ) (places : ℕ) : Type 0 where
  lists : length slots'.lists ≡ length slots.lists
  limit : slots'.limit ≡ slots.limit
  known : items slots' 0 ≡ items slots 0
  are_slots : AreSlots row (items slots' 0) (items slots' 1) slot_of places

Freed-freed : (slots : Lists) (row : ℕ → Known) (slot_of : ℕ → Option ℕ) (places n : ℕ) → length slots.lists ≡ 256
    → AreSlots row (items slots 0) (items slots 1) slot_of places → Freed slots (after_free slots (256 + places) n) row slot_of (places + n)
Freed-freed slots row slot_of places zero lists are = record {
  lists = refl;
  limit = refl;
  known = refl;
  are_slots = subst (AreSlots row (items slots 0) (items slots 1) slot_of) (omega arith) are;
}
Freed-freed slots row slot_of places (suc n) lists are =
    let before = Freed-freed slots row slot_of places n lists are in
    let here : 256 + (places + n) ≡ (256 + places) + n = omega arith in
    let long : length (after_free slots (256 + places) n).lists ≡ 256 = before.lists ∙ lists in
    let at_one = items_moved_same (after_free slots (256 + places) n) 1 ((256 + places) + n) (omega (arith, long)) in
    let at_zero = items_moved_other (after_free slots (256 + places) n) 1 ((256 + places) + n) (omega (arith, long)) 0 (omega (arith, long))
    (λ same. absurd (omega arith)) in
    let more = AreSlots-one_more row (items (after_free slots (256 + places) n) 0) (items (after_free slots (256 + places) n) 1) slot_of
    (places + n) before.are_slots in
    let same_known = known_one_more row (items (after_free slots (256 + places) n) 0) (items (after_free slots (256 + places) n) 1) slot_of
    (places + n) before.are_slots in
    let count : (places + n) + 1 ≡ places + suc n = omega arith in
    record {
      lists = lists_moved (after_free slots (256 + places) n) 1 ((256 + places) + n) (omega (arith, long)) ∙ before.lists;
      limit = before.limit;
      known = at_zero ∙ ap (λ m. without m (items (after_free slots (256 + places) n) 0)) (sym here) ∙ same_known ∙ before.known;
      are_slots = rw (at_zero, at_one) (rw (here, count) at more);
    }

module _ (slots : Lists) (order : Order) (rows : List Known) (slot_of : ℕ → Option ℕ) (map_len room width maxpri places : ℕ)
    (held : IsHeld slots order rows slot_of map_len room width maxpri places) where
  -- memory was taken for more slots
  pub IsHeld-limit : (limit : ℕ) → IsHeld (with_limit slots limit) order rows slot_of map_len room width maxpri places
  IsHeld-limit limit = record {
    lists = held.lists;
    slot_room = omega (arith, held.slot_room);
    levels = held.levels;
    order_room = held.order_room;
    row_room = held.row_room;
    as_long = held.as_long;
    map_room = held.map_room;
    some_cells = held.some_cells;
    least = held.least;
    most = held.most;
    priorities = held.priorities;
    are_slots = held.are_slots;
    ready = held.ready;
    ordered = held.ordered;
  }

  -- another index has the known threads at their slots
  pub IsHeld-filed : (slot_of' : ℕ → Option ℕ) (map_len' room' width' : ℕ)
      → ((t : ℕ) → slot_of' t ≡ find (has_tid (row_at rows) t) (items slots 0)) → map_len' ≡ length (items slots 0) → places ≤ room'
      → 1 ≤ width' → IsHeld slots order rows slot_of' map_len' room' width' maxpri places
  IsHeld-filed slot_of' map_len' room' width' found counted has_room some = record {
    lists = held.lists;
    slot_room = held.slot_room;
    levels = held.levels;
    order_room = held.order_room;
    row_room = held.row_room;
    as_long = counted;
    map_room = has_room;
    some_cells = some;
    least = held.least;
    most = held.most;
    priorities = held.priorities;
    are_slots = record {
      once = held.are_slots.once;
      count = held.are_slots.count;
      are_known = held.are_slots.are_known;
      are_free = held.are_slots.are_free;
      index = found;
    };
    ready = held.ready;
    ordered = held.ordered;
  }

  -- each known thread can be put in an index
  pub listed : AreListed rows slots.limit (items slots 0)
  listed = record {
    once = λ s. omega (arith, held.are_slots.once s);
    all = All-weaker (IsKnown (row_at rows) (items slots 0) places) (IsListed rows slots.limit (items slots 0))
        (λ s is. record {
          is_slot = is.is_slot;
          in_rows = omega (arith, is.in_range, held.row_room);
          in_limit = omega (arith, is.in_range, held.slot_room);
          found = is.found;
        })
        (items slots 0) held.are_slots.are_known;
  }

  -- there are no more known threads than places
  pub few_known : length (items slots 0) ≤ places
  few_known = omega (arith, held.are_slots.count)

  module _ (rows' : List Known) (extends : Extends rows rows') where
    row_kept : (s : ℕ) → 256 ≤ s → s < 256 + places → row_at rows' s ≡ row_at rows s
    row_kept s is_slot in_range = extends.kept s is_slot (omega (arith, in_range, held.row_room))

    find_kept : (u : ℕ) → find (has_tid (row_at rows') u) (items slots 0) ≡ find (has_tid (row_at rows) u) (items slots 0)
    find_kept u = find_agree (has_tid (row_at rows') u) (has_tid (row_at rows) u) (items slots 0)
        (All-weaker (IsKnown (row_at rows) (items slots 0) places) _
        (λ s is. ap (λ (r : Known). eqb r.tid u) (row_kept s is.is_slot is.in_range)) (items slots 0) held.are_slots.are_known)

    found_kept : (s : ℕ) → 256 ≤ s → s < 256 + places → find (has_tid (row_at rows) (row_at rows s).tid) (items slots 0) ≡ Some s
        → find (has_tid (row_at rows') (row_at rows' s).tid) (items slots 0) ≡ Some s
    found_kept s is_slot in_range found = ap (λ (r : Known). find (has_tid (row_at rows') r.tid) (items slots 0)) (row_kept s is_slot in_range)
        ∙ find_kept (row_at rows s).tid ∙ found

    slots_kept : AreSlots (row_at rows') (items slots 0) (items slots 1) slot_of places
    slots_kept = record {
      once = held.are_slots.once;
      count = held.are_slots.count;
      are_known = All-weaker (IsKnown (row_at rows) (items slots 0) places) (IsKnown (row_at rows') (items slots 0) places)
          (λ s is. record { is_slot = is.is_slot; in_range = is.in_range; found = found_kept s is.is_slot is.in_range is.found })
          (items slots 0) held.are_slots.are_known;
      are_free = held.are_slots.are_free;
      index = λ u. held.are_slots.index u ∙ sym (find_kept u);
    }

    threads_kept : map (row_at rows') (items slots 0) ≡ map (row_at rows) (items slots 0)
    threads_kept = rows_same (items slots 0) held.are_slots.are_known
      where
        rows_same : (xs : List ℕ) → AllByRecursion (IsKnown (row_at rows) (items slots 0) places) xs → map (row_at rows') xs ≡ map (row_at rows) xs
        rows_same [] all = refl
        rows_same (x ∷ xs) all = rw (row_kept x all.0.is_slot all.0.in_range, rows_same xs all.1) refl

    ready_range : (s : ℕ) → IsReady (row_at rows) (items slots 0) (prio_of order) s → s < 256 + places
    ready_range s is = (All-found (has_tid (row_at rows) (row_at rows s).tid) (IsKnown (row_at rows) (items slots 0) places) (items slots 0)
        s held.are_slots.are_known is.found).in_range

    tids_kept : map (tid_at rows') order.order ≡ map (tid_at rows) order.order
    tids_kept = tids_same (tid_at rows) (tid_at rows') order.order (All-weaker (IsReady (row_at rows) (items slots 0) (prio_of order)) _
        (λ s is. ap (λ (r : Known). r.tid) (row_kept s is.is_slot (ready_range s is))) order.order held.ready)

    module _ (limit keys room' : ℕ) (longer : room ≤ room') where
      more_prios : (s : ℕ) → prio_of (with_keys order keys) s ≡ prio_of order s
      more_prios s = elim (cases_lt (s - order.levels) (length order.prios)) [
        | inl inside ↦ get_or_append_left order.prios (replicate (keys - length order.prios) 0) 0 (s - order.levels) inside
        | inr past
            ↦ get_or-append_right order.prios (replicate (keys - length order.prios) 0) (length order.prios) (s - order.levels) 0 refl past
            ∙ zeros (keys - length order.prios) ((s - order.levels) - length order.prios) ∙ sym (get_or_past order.prios (s - order.levels) 0 past)
      ]
        where
          zeros : (n j : ℕ) → ◌≡◌ {A = ℕ} (get_or (replicate n 0) j 0) 0
          zeros n j = elim (cases_lt j n) [
            | inl inside ↦ get_or-replicate n j 0 0 inside
            | inr past ↦ get_or_past (replicate n 0) j 0 (omega (arith, length-replicate {A = ℕ} n 0))
          ]

      -- memory was taken, and nothing else has changed
      pub IsHeld-grown : IsHeld (with_limit slots limit) (with_keys order keys) rows' slot_of map_len room' width maxpri places
      IsHeld-grown = record {
        lists = held.lists;
        slot_room = omega (arith, held.slot_room);
        levels = held.levels;
        order_room = omega (arith, held.order_room, length-append order.prios (replicate (keys - length order.prios) 0));
        row_room = omega (arith, held.row_room, extends.longer);
        as_long = held.as_long;
        map_room = omega (arith, held.map_room, longer);
        some_cells = held.some_cells;
        least = held.least;
        most = held.most;
        priorities = rw threads_kept held.priorities;
        are_slots = slots_kept;
        ready = All-weaker (IsReady (row_at rows) (items slots 0) (prio_of order)) (IsReady (row_at rows') (items slots 0) (prio_of (with_keys order keys)))
            (λ s is. record {
              is_slot = is.is_slot;
              found = found_kept s is.is_slot (ready_range s is) is.found;
              weighs = more_prios s ∙ is.weighs ∙ ap (λ (r : Known). r.prio) (sym (row_kept s is.is_slot (ready_range s is)));
            }) order.order held.ready;
        ordered = rw (threads_kept, tids_kept) held.ordered;
      }

      pub view_grown : schedule_of (with_limit slots limit) (with_keys order keys) rows' maxpri places ≡ schedule_of slots order rows maxpri places
      view_grown = rw (threads_kept, tids_kept) refl

  -- there is memory for so many, and the new slots are free
  module _ (n : ℕ) (slot_room : 256 + n ≤ slots.limit) (order_room : n ≤ length order.prios) (row_room : n ≤ length rows)
      (map_room : n ≤ room) (more : places ≤ n) where
    new_slots : Freed slots (after_free slots (256 + places) (n - places)) (row_at rows) slot_of (places + (n - places))
    new_slots = Freed-freed slots (row_at rows) slot_of places (n - places) held.lists held.are_slots

    in_all : places + (n - places) ≡ n
    in_all = omega arith

    pub IsHeld-freed : IsHeld (after_free slots (256 + places) (n - places)) order rows slot_of map_len room width maxpri n
    IsHeld-freed = record {
      lists = new_slots.lists ∙ held.lists;
      slot_room = rw new_slots.limit slot_room;
      levels = held.levels;
      order_room = order_room;
      row_room = row_room;
      as_long = rw new_slots.known held.as_long;
      map_room = map_room;
      some_cells = held.some_cells;
      least = held.least;
      most = held.most;
      priorities = rw new_slots.known held.priorities;
      are_slots = subst
          (AreSlots (row_at rows) (items (after_free slots (256 + places) (n - places)) 0) (items (after_free slots (256 + places) (n - places)) 1) slot_of)
          in_all new_slots.are_slots;
      ready = rw new_slots.known held.ready;
      ordered = rw new_slots.known held.ordered;
    }

    pub view_freed : schedule_of (after_free slots (256 + places) (n - places)) order rows maxpri n
        ≡ after_reserve (schedule_of slots order rows maxpri places) n
    view_freed =
        let most : max places n ≡ n = omega arith in
        rw (new_slots.known, most) refl

module _ (slots : Lists) (order : Order) (rows : List Known) (slot_of : ℕ → Option ℕ) (map_len room width maxpri places : ℕ)
    (held : IsHeld slots order rows slot_of map_len room width maxpri places) (rows' : List Known) (extends : Extends rows rows') (n : ℕ) where
  -- the index is as before, and there is memory for the rest
  pub grown : IsHeld (with_limit slots (256 + n)) (with_keys order n) rows' slot_of map_len room width maxpri places
  grown = IsHeld-grown slots order rows slot_of map_len room width maxpri places held rows' extends (256 + n) n room (omega arith)

  pub view_same : schedule_of (with_limit slots (256 + n)) (with_keys order n) rows' maxpri places ≡ schedule_of slots order rows maxpri places
  view_same = view_grown slots order rows slot_of map_len room width maxpri places held rows' extends (256 + n) n room (omega arith)

  module _ (slot_of' : ℕ → Option ℕ) (map_len' room' width' : ℕ) (found : (t : ℕ) → slot_of' t ≡ find (has_tid (row_at rows') t) (items slots 0))
      (counted : map_len' ≡ length (items slots 0)) (some : 1 ≤ width') where
    pub IsHeld-widened : places ≤ room' → IsHeld (with_limit slots (256 + n)) (with_keys order n) rows' slot_of' map_len' room' width' maxpri places
    IsHeld-widened has_room = IsHeld-filed (with_limit slots (256 + n)) (with_keys order n) rows' slot_of map_len room width maxpri places grown
        slot_of' map_len' room' width' found counted has_room some

    module _ (row_room : n ≤ length rows') (map_room : n ≤ room') (more : places ≤ n) (count : ℕ) (counts : count ≡ n - places) where
      widened : IsHeld (with_limit slots (256 + n)) (with_keys order n) rows' slot_of' map_len' room' width' maxpri places
      widened = IsHeld-widened (omega (arith, map_room, more))

      order_room : n ≤ length (with_keys order n).prios
      order_room = omega (arith, length-append order.prios (replicate (n - length order.prios) 0), length-replicate {A = ℕ} (n - length order.prios) 0)

      pub IsHeld-reserved : IsHeld (after_free (with_limit slots (256 + n)) (256 + places) count) (with_keys order n) rows' slot_of' map_len' room' width'
          maxpri n
      IsHeld-reserved = rw counts (IsHeld-freed (with_limit slots (256 + n)) (with_keys order n) rows' slot_of' map_len' room' width' maxpri places
          widened n (omega arith) order_room row_room map_room more)

      pub view_reserved : schedule_of (after_free (with_limit slots (256 + n)) (256 + places) count) (with_keys order n) rows' maxpri n
          ≡ after_reserve (schedule_of slots order rows maxpri places) n
      view_reserved =
          rw counts (view_freed (with_limit slots (256 + n)) (with_keys order n) rows' slot_of' map_len' room' width' maxpri places widened n
          (omega arith) order_room row_room map_room more)
          ∙ ap (λ s. after_reserve s n) view_same

-- a fact of what is left after an error
pub on_err : {T E : Type 0} (r : Result T E) (P : Type 0) → P → OnErr r P
on_err (Ok x) P holds = tt
on_err (Err e) P holds = holds
