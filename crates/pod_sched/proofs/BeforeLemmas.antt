-- One thread goes right before another.
use Rattle.pod_sched.specs.Buckets.Order.{Order, after_put_before as put_slot_before, prio_of}
use Rattle.lists.specs.ChainLists.{Lists, before, items}
use Rattle.lwp_types.specs.CountLaws.{count-cons, one, times-without_other}
use Rattle.lwp_types.specs.State.{passes, put_before, times_in, without}
use Rattle.pod_sched.proofs.HeldLemmas.{of_thread, thread}
use Rattle.pod_sched.proofs.Ordered.{IsOrdered-moved_before, times-known}
use Rattle.pod_sched.proofs.SlotLemmas.{All-weaker, All-without, only, tids_without}
use Rattle.pod_sched.specs.Held.{IsHeld, schedule_of, tid_at}
use Rattle.pod_sched.specs.Schedule.{Schedule, after_yield, is_eligible, is_eligible_in, knows, priority_in, thread_of}
use Rattle.pod_sched.specs.Slots.{IsReady, row_at}
use Rattle.pod_sched.specs.declared.rows.Known.{Known}
use Rattle.std.proofs.Common.{Bool, List, None, Option, Some, [], ap, arith, cond, eqb, false, inl, inr, is_some, map}
use Rattle.std.proofs.Common.{option_map, refl, subst, sym, true, unwrap_or, ℕ, ◌+◌, ◌∙◌, ◌∷◌, ◌≡◌, ◌≢◌, ◌≤◌}
use Rattle.std.proofs.lemmas.Bool.{cases_eq, eq-eqb, eqb-true, ne_eqb}
use Rattle.std.specs.List.{AllByRecursion}

All-before : (P : ℕ → Type 0) (k o : ℕ) (xs : List ℕ) → P k → AllByRecursion P xs → AllByRecursion P (before k o xs)
All-before P k o [] of_k all = tt
All-before P k o (x ∷ xs) of_k all = by_test (eqb x o) (All-before P k o xs of_k all.1)
  where
    by_test : (t : Bool) → AllByRecursion P (before k o xs) → AllByRecursion P (cond t (k ∷ x ∷ before k o xs) (x ∷ before k o xs))
    by_test true rest = (of_k, (all.0, rest))
    by_test false rest = (all.0, rest)

tids_before : (tid : ℕ → ℕ) (k o : ℕ) (xs : List ℕ) → AllByRecursion (λ s. tid s ≡ tid o → s ≡ o) xs
    → map tid (before k o xs) ≡ before (tid k) (tid o) (map tid xs)
tids_before tid k o [] only = refl
tids_before tid k o (x ∷ xs) only = elim (cases_eq x o) [
  | inl same ↦ rw (eq-eqb x o same, eq-eqb (tid x) (tid o) (ap tid same)) (ap (λ ys. tid k ∷ tid x ∷ ys) (tids_before tid k o xs only.1))
  | inr differs ↦ rw (ne_eqb x o differs, ne_eqb (tid x) (tid o) (λ is. differs (only.0 is))) (ap (λ ys. tid x ∷ ys) (tids_before tid k o xs only.1))
]

before_none : (k o : ℕ) (xs : List ℕ) → times_in xs o ≡ 0 → before k o xs ≡ xs
before_none k o [] none = refl
before_none k o (x ∷ xs) none = by_test (eqb x o) (before_none k o xs) (sym (count-cons (λ v. eqb v o) x xs) ∙ none)
  where
    by_test : (b : Bool) → (times_in xs o ≡ 0 → before k o xs ≡ xs) → one b + times_in xs o ≡ 0 → cond b (k ∷ x ∷ before k o xs) (x ∷ before k o xs) ≡ x ∷ xs
    by_test true rest none = absurd (omega arith)
    by_test false rest none = ap (λ ys. x ∷ ys) (rest (omega arith))

before_once : (k o : ℕ) (xs : List ℕ) → times_in xs o ≡ 1 → before k o xs ≡ put_before k o xs
before_once k o [] once = absurd (omega arith)
before_once k o (x ∷ xs) once = by_test (eqb x o) (before_once k o xs) (sym (count-cons (λ v. eqb v o) x xs) ∙ once)
  where
    by_test : (b : Bool) → (times_in xs o ≡ 1 → before k o xs ≡ put_before k o xs) → one b + times_in xs o ≡ 1
        → cond b (k ∷ x ∷ before k o xs) (x ∷ before k o xs) ≡ cond b (k ∷ x ∷ xs) (x ∷ put_before k o xs)
    by_test true rest once = ap (λ ys. k ∷ x ∷ ys) (before_none k o xs (omega arith))
    by_test false rest once = ap (λ ys. x ∷ ys) (rest (omega arith))

pub eligible_known : (s : Schedule) (t : ℕ) → is_eligible_in s t ≡ true → knows s t ≡ true
eligible_known s t runs = by_case (thread_of s t) runs
  where
    by_case : (o : Option Known) → passes is_eligible o ≡ true → is_some o ≡ true
    by_case None runs = absurd (cc)
    by_case (Some x) runs = refl

module _ (slots : Lists) (order : Order) (rows : List Known) (slot_of : ℕ → Option ℕ) (map_len room width maxpri places : ℕ)
    (held : IsHeld slots order rows slot_of map_len room width maxpri places) where
  module _ (t slot : ℕ) (at : slot_of t ≡ Some slot) (runs : is_eligible_in (schedule_of slots order rows maxpri places) t ≡ true) where
    its_row : thread_of (schedule_of slots order rows maxpri places) t ≡ Some (row_at rows slot)
    its_row = thread slots order rows slot_of map_len room width maxpri places held t slot at

    its_tid : tid_at rows slot ≡ t
    its_tid = of_thread slots order rows slot_of map_len room width maxpri places held t slot at

    in_order : times_in (map (tid_at rows) order.order) t ≡ 1
    in_order =
        let eligible : is_eligible (row_at rows slot) ≡ true = rw its_row at runs in
        times-known _ _ held.ordered t (row_at rows slot) its_row ∙ ap one eligible

    only_slot : (s : ℕ) → IsReady (row_at rows) (items slots 0) (prio_of order) s → tid_at rows s ≡ t → s ≡ slot
    only_slot s is = only (row_at rows) (row_at rows) (items slots 0) (items slots 1) slot_of places held.are_slots t slot at s is.found

    ready_in : (xs : List ℕ) → AllByRecursion (IsReady (row_at rows) (items slots 0) (prio_of order)) xs
        → 1 ≤ times_in (map (tid_at rows) xs) t → IsReady (row_at rows) (items slots 0) (prio_of order) slot
    ready_in [] all some = absurd (omega arith)
    ready_in (x ∷ xs) all some = by_test (eqb (tid_at rows x) t) refl (ready_in xs all.1)
      where
        by_test : (b : Bool) → eqb (tid_at rows x) t ≡ b
            → (1 ≤ times_in (map (tid_at rows) xs) t → IsReady (row_at rows) (items slots 0) (prio_of order) slot)
            → IsReady (row_at rows) (items slots 0) (prio_of order) slot
        by_test true is rest = subst (IsReady (row_at rows) (items slots 0) (prio_of order)) (only_slot x all.0 (eqb-true _ _ is)) all.0
        by_test false is rest = rest (omega (arith, some, count-cons (λ v. eqb v t) (tid_at rows x) (map (tid_at rows) xs), ap one is))

    ready_slot : IsReady (row_at rows) (items slots 0) (prio_of order) slot
    ready_slot = ready_in order.order held.ready (omega (arith, in_order))

    weighs_as : prio_of order slot ≡ priority_in (schedule_of slots order rows maxpri places) t
    weighs_as = ready_slot.weighs ∙ sym (ap (λ o. unwrap_or (option_map (λ (r : Known). r.prio) o) 0) its_row)

  module _ (t slot : ℕ) (at : slot_of t ≡ Some slot) (runs : is_eligible_in (schedule_of slots order rows maxpri places) t ≡ true)
      (u other : ℕ) (at' : slot_of u ≡ Some other) (runs' : is_eligible_in (schedule_of slots order rows maxpri places) u ≡ true) where
    pub same_weight : priority_in (schedule_of slots order rows maxpri places) t ≡ priority_in (schedule_of slots order rows maxpri places) u
        → prio_of order other ≡ prio_of order slot
    same_weight same = weighs_as u other at' runs' ∙ sym same ∙ sym (weighs_as t slot at runs)

    module _ (differs : t ≢ u) where
      pub slots_differ : other ≢ slot
      slots_differ same = differs (sym (its_tid t slot at runs) ∙ ap (tid_at rows) (sym same) ∙ its_tid u other at' runs')

      order_before : map (tid_at rows) (before other slot (without other order.order)) ≡ put_before u t (without u (map (tid_at rows) order.order))
      order_before =
          tids_before (tid_at rows) other slot (without other order.order)
          (All-weaker (λ s. IsReady (row_at rows) (items slots 0) (prio_of order) s × (s ≢ other)) _
          (λ s is same. only_slot t slot at runs s is.0 (same ∙ its_tid t slot at runs)) (without other order.order)
          (All-without (IsReady (row_at rows) (items slots 0) (prio_of order)) other order.order held.ready))
          ∙ ap (λ n. before n (tid_at rows slot) (map (tid_at rows) (without other order.order))) (its_tid u other at' runs')
          ∙ ap (λ n. before u n (map (tid_at rows) (without other order.order))) (its_tid t slot at runs)
          ∙ ap (before u t) (tids_without (tid_at rows) u other order.order (its_tid u other at' runs')
          (All-weaker (IsReady (row_at rows) (items slots 0) (prio_of order)) _ (λ s is. only_slot u other at' runs' s is) order.order held.ready))
          ∙ before_once u t (without u (map (tid_at rows) order.order))
          (times-without_other u t (map (tid_at rows) order.order) differs ∙ in_order t slot at runs)

      pub view_before : schedule_of slots (put_slot_before order other slot) rows maxpri places ≡ after_yield (schedule_of slots order rows maxpri places) t u
      view_before = rw (order_before, ne_eqb t u differs) refl

      pub IsHeld-before : IsHeld slots (put_slot_before order other slot) rows slot_of map_len room width maxpri places
      IsHeld-before = record {
        lists = held.lists;
        slot_room = held.slot_room;
        levels = held.levels;
        order_room = held.order_room;
        row_room = held.row_room;
        as_long = held.as_long;
        map_room = held.map_room;
        some_cells = held.some_cells;
        least = held.least;
        most = held.most;
        priorities = held.priorities;
        are_slots = held.are_slots;
        ready = All-before (IsReady (row_at rows) (items slots 0) (prio_of order)) other slot (without other order.order) (ready_slot u other at' runs')
            (All-weaker (λ s. IsReady (row_at rows) (items slots 0) (prio_of order) s × (s ≢ other)) _ (λ s is. is.0)
            (without other order.order) (All-without (IsReady (row_at rows) (items slots 0) (prio_of order)) other order.order held.ready));
        ordered = rw order_before (IsOrdered-moved_before _ _ held.ordered u (in_order u other at' runs') t);
      }
