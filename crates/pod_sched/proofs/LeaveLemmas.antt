-- A thread is forgotten, or one more is known.
use Rattle.pod_sched.specs.Buckets.Order.{Order, after_take, prio_of}
use Rattle.lists.proofs.ChainPushes.{items_pushed_other, items_pushed_same, length-pushed}
use Rattle.lists.specs.ChainLists.{Lists, after_move_to_back, items}
use Rattle.lwp_types.proofs.Ranks.{All-filter}
use Rattle.lwp_types.specs.CountLaws.{count-cons, count-push, length-without, one, times-without_other, times-without_same}
use Rattle.lwp_types.specs.State.{times_in, without}
use Rattle.pod_sched.proofs.Counts.{one_other, one_same, times-same, times_found}
use Rattle.pod_sched.proofs.HeldLemmas.{is_slot, thread}
use Rattle.pod_sched.proofs.Ordered.{IsOrdered-left}
use Rattle.pod_sched.proofs.SlotLemmas.{All-found, All-push, All-weaker, All-without, find_agree, located, map_push}
use Rattle.pod_sched.proofs.SlotLemmas.{only, slot_known, slot_tid, tids_same, tids_without, without_none}
use Rattle.pod_sched.specs.Held.{IsHeld, IsPriority, schedule_of, tid_at}
use Rattle.pod_sched.specs.Schedule.{after_leave, is_of, without_row}
use Rattle.lists.specs.ThreadIndex.{Puts}
use Rattle.pod_sched.specs.Slots.{AreSlots, Changes, IsFree, IsKnown, IsReady, has_tid, row_at}
use Rattle.pod_sched.specs.declared.rows.Known.{Known}
use Rattle.std.proofs.Common.{Bool, List, None, Option, Some, [], ap, arith, cond, eqb, false, inl, inr, length, map}
use Rattle.std.proofs.Common.{not, refl, slice_get, subst, sym, true, ℕ, ◌++◌, ◌+◌, ◌<◌, ◌∙◌, ◌∷◌, ◌≡◌, ◌≢◌, ◌≤◌}
use Rattle.std.proofs.lemmas.Bool.{cases_eq, eq-eqb, eqb-true, ne_eqb}
use Rattle.std.proofs.lemmas.List.{get_or-map, length-map, length_push}
use Rattle.std.specs.List.{AllByRecursion, find}

-- ---- lists of lists

module _ (slots : Lists) (l k : ℕ) (inside : l < length slots.lists) where
  pub items_moved_same : items (after_move_to_back slots l k) l ≡ without k (items slots l) ++ k ∷ []
  items_moved_same =
      items_pushed_same l k (map (without k) slots.lists) (omega (arith, length-map slots.lists (without k)))
      ∙ ap (λ xs. xs ++ k ∷ []) (get_or-map (without k) slots.lists l [] [] inside)

  pub items_moved_other : (i : ℕ) → i < length slots.lists → i ≢ l → items (after_move_to_back slots l k) i ≡ without k (items slots i)
  items_moved_other i i_in differs = items_pushed_other l k i (map (without k) slots.lists) differs ∙ get_or-map (without k) slots.lists i [] [] i_in

  pub lists_moved : length (after_move_to_back slots l k).lists ≡ length slots.lists
  lists_moved = length-pushed l k (map (without k) slots.lists) ∙ length-map slots.lists (without k)

-- ---- searches

find_without : (p : ℕ → Bool) (k : ℕ) (xs : List ℕ) → p k ≡ false → find p (without k xs) ≡ find p xs
find_without p k [] out = refl
find_without p k (x ∷ xs) out = by_test (eqb x k) refl (find_without p k xs out)
  where
    by_test : (t : Bool) → eqb x k ≡ t → find p (without k xs) ≡ find p xs
        → find p (cond (not t) (x ∷ without k xs) (without k xs)) ≡ cond (p x) (Some x) (find p xs)
    by_test true e rest = rw (ap p (eqb-true x k e) ∙ out) rest
    by_test false e rest = ap (λ o. cond (p x) (Some x) o) rest

find_nothing : (p : ℕ → Bool) (xs : List ℕ) → AllByRecursion (λ x. p x ≡ false) xs → find p xs ≡ None
find_nothing p [] none = refl
find_nothing p (x ∷ xs) none = rw none.0 (find_nothing p xs none.1)

rows_without : (row : ℕ → Known) (t slot : ℕ) (xs : List ℕ) → (row slot).tid ≡ t → AllByRecursion (λ s. (row s).tid ≡ t → s ≡ slot) xs
    → map row (without slot xs) ≡ without_row t (map row xs)
rows_without row t slot [] of_slot only = refl
rows_without row t slot (x ∷ xs) of_slot only = elim (cases_eq x slot) [
  | inl same ↦ rw (eq-eqb x slot same, eq-eqb (row x).tid t (ap (λ s. (row s).tid) same ∙ of_slot)) (rows_without row t slot xs of_slot only.1)
  | inr differs
      ↦ rw (ne_eqb x slot differs, ne_eqb (row x).tid t (λ is. differs (only.0 is))) (ap (λ ys. row x ∷ ys) (rows_without row t slot xs of_slot only.1))
]

module _ (row : ℕ → Known) (known free : List ℕ) (slot_of slot_of' : ℕ → Option ℕ) (places : ℕ)
    (slots : AreSlots row known free slot_of places) (t slot : ℕ) (at : slot_of t ≡ Some slot) (puts : Puts slot_of slot_of' t None) where
  here : find (has_tid row t) known ≡ Some slot
  here = located row row known free slot_of places slots t slot at

  its_tid : (row slot).tid ≡ t
  its_tid = slot_tid row row known free slot_of places slots t slot at

  is_there : IsKnown row known places slot
  is_there = slot_known row row known free slot_of places slots t slot at

  once_known : times_in known slot ≡ 1
  once_known = omega (arith, times_found (has_tid row t) known slot here, slots.once slot)

  once_free : times_in free slot ≡ 0
  once_free = omega (arith, times_found (has_tid row t) known slot here, slots.once slot)

  -- another slot is of another thread
  other_tid : (s : ℕ) → find (has_tid row (row s).tid) known ≡ Some s → s ≢ slot → (row s).tid ≢ t
  other_tid s found differs is = differs (only row row known free slot_of places slots t slot at s found is)

  still_found : (s : ℕ) → find (has_tid row (row s).tid) known ≡ Some s → s ≢ slot → find (has_tid row (row s).tid) (without slot known) ≡ Some s
  still_found s found differs =
      find_without (has_tid row (row s).tid) slot known (ne_eqb _ _ (λ same. other_tid s found differs (sym same ∙ its_tid))) ∙ found

  pub AreSlots-left : AreSlots row (without slot known) (without slot free ++ slot ∷ []) slot_of' places
  AreSlots-left = record {
    once = λ s. elim (cases_eq s slot) [
      | inl same
          ↦ omega (
            arith,
            times-same (without slot known) slot s same,
            times-same (without slot free ++ slot ∷ []) slot s same,
            times-without_same slot known,
            count-push (λ v. eqb v slot) (without slot free) slot,
            times-without_same slot free,
            one_same slot,
          )
      | inr differs
          ↦ omega (
            arith,
            slots.once s,
            times-without_other slot s known differs,
            times-without_other slot s free differs,
            count-push (λ v. eqb v s) (without slot free) slot,
            one_other slot s differs,
          )
    ];
    count = omega (arith, slots.count, length-without slot known, length-without slot free, once_known, once_free, length_push (without slot free) slot);
    are_known = All-weaker (λ s. IsKnown row known places s × (s ≢ slot)) (IsKnown row (without slot known) places)
        (λ s is. record { is_slot = is.0.is_slot; in_range = is.0.in_range; found = still_found s is.0.found is.1 })
        (without slot known) (All-without (IsKnown row known places) slot known slots.are_known);
    are_free = All-push (IsFree places) (without slot free) slot
        (All-weaker (λ s. IsFree places s × (s ≢ slot)) (IsFree places) (λ s is. is.0) (without slot free)
        (All-without (IsFree places) slot free slots.are_free))
        (record { is_slot = is_there.is_slot; in_range = is_there.in_range });
    index = λ u. elim (cases_eq u t) [
      | inl same ↦
          ap slot_of' same ∙ puts.here
          ∙ sym (find_nothing (has_tid row u) (without slot known) (All-weaker (λ s. IsKnown row known places s × (s ≢ slot)) _
          (λ s is. ne_eqb _ _ (λ of_u. other_tid s is.0.found is.1 (of_u ∙ same))) (without slot known)
          (All-without (IsKnown row known places) slot known slots.are_known)))
      | inr differs ↦
          puts.others u differs ∙ slots.index u ∙ sym (find_without (has_tid row u) slot known (ne_eqb _ _ (λ of_u. differs (sym of_u ∙ its_tid))))
    ];
  }

  pub rows_left : map row (without slot known) ≡ without_row t (map row known)
  rows_left = rows_without row t slot known its_tid
      (All-weaker (IsKnown row known places) _ (λ s is. only row row known free slot_of places slots t slot at s is.found) known slots.are_known)

  module _ (weight : ℕ → ℕ) (order : List ℕ) (ready : AllByRecursion (IsReady row known weight) order) where
    pub ready_left : AllByRecursion (IsReady row (without slot known) weight) (without slot order)
    ready_left = All-weaker (λ s. IsReady row known weight s × (s ≢ slot)) (IsReady row (without slot known) weight)
        (λ s is. record { is_slot = is.0.is_slot; found = still_found s is.0.found is.1; weighs = is.0.weighs })
        (without slot order) (All-without (IsReady row known weight) slot order ready)

    pub tids_left : map (λ s. (row s).tid) (without slot order) ≡ without t (map (λ s. (row s).tid) order)
    tids_left = tids_without (λ s. (row s).tid) t slot order its_tid
        (All-weaker (IsReady row known weight) _ (λ s is. only row row known free slot_of places slots t slot at s is.found) order ready)

module _ (slots : Lists) (order : Order) (rows : List Known) (slot_of : ℕ → Option ℕ) (map_len room width maxpri places : ℕ)
    (held : IsHeld slots order rows slot_of map_len room width maxpri places) (t slot : ℕ) (at : slot_of t ≡ Some slot) where
  pub key_of_slots : length slots.lists ≤ slot
  key_of_slots = omega (arith, held.lists, is_slot slots order rows slot_of map_len room width maxpri places held t slot at)

  known_left : items (after_move_to_back slots 1 slot) 0 ≡ without slot (items slots 0)
  known_left = items_moved_other slots 1 slot (omega (arith, held.lists)) 0 (omega (arith, held.lists)) (λ same. absurd (omega arith))

  free_left : items (after_move_to_back slots 1 slot) 1 ≡ without slot (items slots 1) ++ slot ∷ []
  free_left = items_moved_same slots 1 slot (omega (arith, held.lists))

  -- the entry of the thread is written, and nothing is said of how
  module _ (slot_of' : ℕ → Option ℕ) (puts : Puts slot_of slot_of' t None) where
    threads_left : map (row_at rows) (without slot (items slots 0)) ≡ without_row t (map (row_at rows) (items slots 0))
    threads_left = rows_left (row_at rows) (items slots 0) (items slots 1) slot_of slot_of' places held.are_slots t slot at puts

    order_left : map (tid_at rows) (without slot order.order) ≡ without t (map (tid_at rows) order.order)
    order_left = tids_left (row_at rows) (items slots 0) (items slots 1) slot_of slot_of' places held.are_slots t slot at puts
        (prio_of order) order.order held.ready

  pub view_left : schedule_of (after_move_to_back slots 1 slot) (after_take order slot) rows maxpri places
      ≡ after_leave (schedule_of slots order rows maxpri places) t
  view_left =
      let gone : ℕ → Option ℕ = λ u. cond (eqb u t) None (slot_of u) in
      let puts : Puts slot_of gone t None = record { here = rw (eq-eqb t t refl) refl; others = λ u differs. rw (ne_eqb u t differs) refl } in
      rw (known_left, threads_left gone puts, order_left gone puts) refl

  module _ (slot_of' : ℕ → Option ℕ) (map_len' room' : ℕ) (puts : Puts slot_of slot_of' t None) (shorter : map_len' + 1 ≡ map_len)
      (same_room : room' ≡ room) where
    here_once : times_in (items slots 0) slot ≡ 1
    here_once = once_known (row_at rows) (items slots 0) (items slots 1) slot_of slot_of' places held.are_slots t slot at puts

    pub IsHeld-left : IsHeld (after_move_to_back slots 1 slot) (after_take order slot) rows slot_of' map_len' room' width maxpri places
    IsHeld-left = record {
      lists = lists_moved slots 1 slot (omega (arith, held.lists)) ∙ held.lists;
      slot_room = held.slot_room;
      levels = held.levels;
      order_room = held.order_room;
      row_room = held.row_room;
      as_long = omega (arith, held.as_long, shorter, ap length known_left, length-without slot (items slots 0), here_once);
      map_room = omega (arith, held.map_room, same_room);
      some_cells = held.some_cells;
      least = held.least;
      most = held.most;
      priorities = rw (known_left, threads_left slot_of' puts)
          (All-filter (λ (row : Known). IsPriority maxpri row.prio) (λ r. not (is_of t r)) (map (row_at rows) (items slots 0)) held.priorities);
      are_slots = rw (known_left, free_left)
          (AreSlots-left (row_at rows) (items slots 0) (items slots 1) slot_of slot_of' places held.are_slots t slot at puts);
      ready = rw known_left (ready_left (row_at rows) (items slots 0) (items slots 1) slot_of slot_of' places held.are_slots t slot at puts
          (prio_of order) order.order held.ready);
      ordered = rw (known_left, threads_left slot_of' puts, order_left slot_of' puts)
          (IsOrdered-left _ _ held.ordered t (row_at rows slot) (thread slots order rows slot_of map_len room width maxpri places held t slot at));
    }

-- ---- one thread more

pub find_push_new : (p : ℕ → Bool) (xs : List ℕ) (a : ℕ) → find p xs ≡ None → p a ≡ true → find p (xs ++ a ∷ []) ≡ Some a
find_push_new p [] a none is = rw is refl
find_push_new p (x ∷ xs) a none is = by_test (p x) (find_push_new p xs a) none
  where
    by_test : (t : Bool) → (find p xs ≡ None → p a ≡ true → find p (xs ++ a ∷ []) ≡ Some a) → cond t (Some x) (find p xs) ≡ None
        → cond t (Some x) (find p (xs ++ a ∷ [])) ≡ Some a
    by_test true rest none = absurd (cc)
    by_test false rest none = rest none is

pub find_push_old : (p : ℕ → Bool) (xs : List ℕ) (a : ℕ) → p a ≡ false → find p (xs ++ a ∷ []) ≡ find p xs
find_push_old p [] a out = rw out refl
find_push_old p (x ∷ xs) a out = ap (λ o. cond (p x) (Some x) o) (find_push_old p xs a out)

first_times : (xs : List ℕ) (a : ℕ) → slice_get xs 0 ≡ Some a → 1 ≤ times_in xs a
first_times [] a first = absurd (cc)
first_times (x ∷ xs) a first =
    let same : x ≡ a = cc in
    omega (arith, count-cons (λ v. eqb v a) x xs, ap one (eq-eqb x a same))

pub slot_free : (places : ℕ) (xs : List ℕ) (slot : ℕ) → AllByRecursion (IsFree places) xs → slice_get xs 0 ≡ Some slot → IsFree places slot
slot_free places [] slot all is = absurd (cc)
slot_free places (x ∷ xs) slot all is =
    let same : x ≡ slot = cc in
    subst (IsFree places) same all.0

module _ (row row' : ℕ → Known) (known free : List ℕ) (slot_of slot_of' : ℕ → Option ℕ) (places : ℕ)
    (slots : AreSlots row known free slot_of places) (t slot : ℕ) (unknown : slot_of t ≡ None) (first : slice_get free 0 ≡ Some slot)
    (new : Known) (changes : Changes row row' slot new) (same_tid : new.tid ≡ t) (puts : Puts slot_of slot_of' t (Some slot)) where
  free_once : times_in free slot ≡ 1
  free_once = omega (arith, first_times free slot first, slots.once slot)

  not_known : times_in known slot ≡ 0
  not_known = omega (arith, first_times free slot first, slots.once slot)

  pub known_same : without slot known ≡ known
  known_same = without_none slot known not_known

  -- each known thread is at another slot
  others : AllByRecursion (λ s. IsKnown row known places s × (s ≢ slot)) known
  others = subst (AllByRecursion (λ s. IsKnown row known places s × (s ≢ slot))) known_same (All-without (IsKnown row known places) slot known slots.are_known)

  free_slot : IsFree places slot
  free_slot = slot_free places free slot slots.are_free first

  its_new_tid : (row' slot).tid ≡ t
  its_new_tid = ap (λ (r : Known). r.tid) changes.here ∙ same_tid

  find_known : (u : ℕ) → find (has_tid row' u) known ≡ find (has_tid row u) known
  find_known u = find_agree (has_tid row' u) (has_tid row u) known
      (All-weaker (λ s. IsKnown row known places s × (s ≢ slot)) _ (λ s is. ap (λ (r : Known). eqb r.tid u) (changes.others s is.0.is_slot is.1)) known others)

  nobody_has : find (has_tid row t) known ≡ None
  nobody_has = sym (slots.index t) ∙ unknown

  found_new : find (has_tid row' t) (known ++ slot ∷ []) ≡ Some slot
  found_new = find_push_new (has_tid row' t) known slot (find_known t ∙ nobody_has) (eq-eqb _ _ its_new_tid)

  found_old : (u : ℕ) → u ≢ t → find (has_tid row' u) (known ++ slot ∷ []) ≡ find (has_tid row u) known
  found_old u differs = find_push_old (has_tid row' u) known slot (ne_eqb _ _ (λ is. differs (sym is ∙ its_new_tid))) ∙ find_known u

  -- a known thread has another id
  old_tid : (s : ℕ) → find (has_tid row (row s).tid) known ≡ Some s → (row s).tid ≢ t
  old_tid s found is =
      let here : find (has_tid row t) known ≡ Some s = subst (λ u. find (has_tid row u) known ≡ Some s) is found in
      absurd (cc (here, nobody_has))

  found_kept : (s : ℕ) → 256 ≤ s → s ≢ slot → find (has_tid row (row s).tid) known ≡ Some s → find (has_tid row' (row' s).tid) (known ++ slot ∷ []) ≡ Some s
  found_kept s is_slot differs found =
      ap (λ (r : Known). find (has_tid row' r.tid) (known ++ slot ∷ [])) (changes.others s is_slot differs) ∙ found_old (row s).tid (old_tid s found) ∙ found

  pub AreSlots-admitted : AreSlots row' (known ++ slot ∷ []) (without slot free) slot_of' places
  AreSlots-admitted = record {
    once = λ s. elim (cases_eq s slot) [
      | inl same
          ↦ omega (
            arith,
            times-same (known ++ slot ∷ []) slot s same,
            times-same (without slot free) slot s same,
            count-push (λ v. eqb v slot) known slot,
            one_same slot,
            times-without_same slot free,
            not_known,
          )
      | inr differs ↦ omega (arith, slots.once s, count-push (λ v. eqb v s) known slot, one_other slot s differs, times-without_other slot s free differs)
    ];
    count = omega (arith, slots.count, length_push known slot, length-without slot free, free_once);
    are_known = All-push (IsKnown row' (known ++ slot ∷ []) places) known slot
        (All-weaker (λ s. IsKnown row known places s × (s ≢ slot)) (IsKnown row' (known ++ slot ∷ []) places)
        (λ s is. record {
          is_slot = is.0.is_slot;
          in_range = is.0.in_range;
          found = found_kept s is.0.is_slot is.1 is.0.found;
        })
        known others)
        (record {
          is_slot = free_slot.is_slot;
          in_range = free_slot.in_range;
          found = ap (λ u. find (has_tid row' u) (known ++ slot ∷ [])) its_new_tid ∙ found_new;
        });
    are_free = All-weaker (λ s. IsFree places s × (s ≢ slot)) (IsFree places) (λ s is. is.0) (without slot free)
        (All-without (IsFree places) slot free slots.are_free);
    index = λ u. elim (cases_eq u t) [
      | inl same ↦ ap slot_of' same ∙ puts.here ∙ sym (ap (λ n. find (has_tid row' n) (known ++ slot ∷ [])) same ∙ found_new)
      | inr differs ↦ puts.others u differs ∙ slots.index u ∙ sym (found_old u differs)
    ];
  }

  pub rows_admitted : map row' (known ++ slot ∷ []) ≡ map row known ++ new ∷ []
  rows_admitted =
      map_push row' known slot
      ∙ ap (λ ys. ys ++ row' slot ∷ [])
      (rows_same known (All-weaker (λ s. IsKnown row known places s × (s ≢ slot)) _ (λ s is. changes.others s is.0.is_slot is.1) known others))
      ∙ ap (λ r. map row known ++ r ∷ []) changes.here
    where
      rows_same : (xs : List ℕ) → AllByRecursion (λ s. row' s ≡ row s) xs → map row' xs ≡ map row xs
      rows_same [] same = refl
      rows_same (x ∷ xs) same = rw (same.0, rows_same xs same.1) refl

  module _ (weight weight' : ℕ → ℕ) (order : List ℕ) (ready : AllByRecursion (IsReady row known weight) order)
      (weights : (s : ℕ) → 256 ≤ s → s ≢ slot → weight' s ≡ weight s) where
    -- each thread in the run queue is known, and so at another slot
    ready_other : (s : ℕ) → IsReady row known weight s → s ≢ slot
    ready_other s is = (All-found (has_tid row (row s).tid) (λ n. IsKnown row known places n × (n ≢ slot)) known s others is.found).1

    order_same : without slot order ≡ order
    order_same = without_away order ready
      where
        without_away : (xs : List ℕ) → AllByRecursion (IsReady row known weight) xs → without slot xs ≡ xs
        without_away [] all = refl
        without_away (x ∷ xs) all = rw (ne_eqb x slot (ready_other x all.0)) (ap (λ ys. x ∷ ys) (without_away xs all.1))

    pub ready_kept : AllByRecursion (IsReady row' (known ++ slot ∷ []) weight') order
    ready_kept = All-weaker (IsReady row known weight) (IsReady row' (known ++ slot ∷ []) weight')
        (λ s is. record {
          is_slot = is.is_slot;
          found = found_kept s is.is_slot (ready_other s is) is.found;
          weighs = weights s is.is_slot (ready_other s is) ∙ is.weighs ∙ ap (λ (r : Known). r.prio) (sym (changes.others s is.is_slot (ready_other s is)));
        }) order ready

    pub tids_stay : map (λ s. (row' s).tid) order ≡ map (λ s. (row s).tid) order
    tids_stay = tids_same (λ s. (row s).tid) (λ s. (row' s).tid) order
        (All-weaker (IsReady row known weight) _ (λ s is. ap (λ (r : Known). r.tid) (changes.others s is.is_slot (ready_other s is))) order ready)

    pub ready_joined : weight' slot ≡ new.prio → AllByRecursion (IsReady row' (known ++ slot ∷ []) weight') (without slot order ++ slot ∷ [])
    ready_joined weighs = rw order_same (All-push (IsReady row' (known ++ slot ∷ []) weight') order slot ready_kept (record {
      is_slot = free_slot.is_slot;
      found = ap (λ u. find (has_tid row' u) (known ++ slot ∷ [])) its_new_tid ∙ found_new;
      weighs = weighs ∙ ap (λ (r : Known). r.prio) (sym changes.here);
    }))

    pub tids_joined : map (λ s. (row' s).tid) (without slot order ++ slot ∷ []) ≡ map (λ s. (row s).tid) order ++ t ∷ []
    tids_joined =
        ap (λ xs. map (λ s. (row' s).tid) (xs ++ slot ∷ [])) order_same ∙ map_push (λ s. (row' s).tid) order slot
        ∙ ap (λ ys. ys ++ (row' slot).tid ∷ []) tids_stay ∙ ap (λ u. map (λ s. (row s).tid) order ++ u ∷ []) its_new_tid
