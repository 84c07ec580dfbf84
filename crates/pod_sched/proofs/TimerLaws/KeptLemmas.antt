-- Each change of the leaves leaves them filed.
use Rattle.lwp_types.specs.CountLaws.{count-cons, one}
use Rattle.lwp_types.specs.Counts.{timers_of}
use Rattle.lwp_types.specs.State.{passes}
use Rattle.lwp_types.specs.Unblock.{is_timer_of}
use Rattle.lwp_types.specs.declared.rows.TimerRow.{TimerRow}
use Rattle.std.proofs.Common.{Bool, IsSome, List, cond, option_map, None, Option, Some, [], ap, arith, false, get_or, inl, inr, is_some, length, length-set}
use Rattle.std.proofs.Common.{length-take, refl, replicate, set, suc, sym, take, true, zero, ℕ, ◌++◌, ◌+◌, ◌<◌, ◌∙◌, ◌∷◌, ◌≡◌, ◌≤◌}
use Rattle.std.proofs.lemmas.Bool.{cases_eq, eq-eqb, ne_eqb}
use Rattle.std.proofs.lemmas.List.{get_or-replicate, length_push, take_more}
use Rattle.std.specs.List.{filter, list_any}
use Rattle.pod_sched.proofs.TimerLaws.LeavesLemmas.{IsOnce-emptied, IsOnce-packed, IsOnce-push, IsTied-bare, IsTied-emptied, IsTied-none}
use Rattle.pod_sched.proofs.TimerLaws.LeavesLemmas.{IsTied-push, few_living, first-emptied_other, first-emptied_same, first-push_here}
use Rattle.pod_sched.proofs.TimerLaws.LeavesLemmas.{first-push_past, length-packed, living-push, uncounted_found, unfound_new}
use Rattle.lists.proofs.LivingLemmas.{held, living-set}
use Rattle.lists.specs.ThreadIndex.{Found, IsEmpty, Puts, count_of, place_of, width_of}
use Rattle.pod_sched.specs.Timers.Kept.{IsFiled, IsShelved}
use Rattle.pod_sched.specs.Timers.Leaves.{IsOnce, first_of, never}
use Rattle.lists.specs.Living.{living}

module _ (leaves : List (Option TimerRow)) (dues : List ℕ) (index : Found) (was : IsFiled leaves dues index) where
  pub IsFiled-none : IsFiled (leaves ++ None ∷ []) dues index
  IsFiled-none = record {
    tied = IsTied-none leaves dues was.tied;
    found = λ t. was.found t ∙ sym (first-push_past (is_timer_of t) leaves None refl);
    counted = omega (arith, was.counted, ap length (living-push leaves None), ap length (append-empty (living leaves)));
  }
    where
      append-empty : (xs : List TimerRow) → xs ++ [] ≡ xs
      append-empty [] = refl
      append-empty (x ∷ xs) = ap (λ ys. x ∷ ys) (append-empty xs)

  module _ (row : TimerRow) (index' : Found) (room : length leaves < length dues) (none : first_of (is_timer_of row.tid) leaves ≡ None)
      (puts : Puts (place_of index) (place_of index') row.tid (Some (length leaves))) (count : count_of index' ≡ count_of index + 1) where
    pub IsFiled-some : IsFiled (leaves ++ Some row ∷ []) (set dues (length leaves) row.due) index'
    IsFiled-some = record {
      tied = IsTied-push leaves dues was.tied row room;
      found = λ t. elim (cases_eq t row.tid) [
        | inl same ↦ rw same (puts.here ∙ sym (first-push_here (is_timer_of row.tid) leaves (Some row) (eq-eqb row.tid row.tid refl) none))
        | inr away ↦ puts.others t away ∙ was.found t ∙ sym (first-push_past (is_timer_of t) leaves (Some row) (ne_eqb row.tid t (λ same. away (sym same))))
      ];
      counted = omega (arith, count, was.counted, ap length (living-push leaves (Some row)), length_push (living leaves) row);
    }

-- nothing is filed yet
pub IsFiled-bare : (dues : List ℕ) (index : Found) → dues ≡ replicate (length dues) never → IsEmpty index → IsFiled [] dues index
IsFiled-bare dues index bare empty = record {
  tied = IsTied-bare 0 dues (λ i less. rw bare (get_or-replicate (length dues) i never never less));
  found = empty.nobody;
  counted = empty.none;
}

-- ---- filing them one after the other

once_before : (xs : List (Option TimerRow)) (i : ℕ) (row : TimerRow) → get_or xs i None ≡ Some row
    → timers_of (living (take i xs)) row.tid + 1 ≤ timers_of (living xs) row.tid
once_before [] i row is = absurd (cc)
once_before (None ∷ xs) zero row is = absurd (cc)
once_before (Some x ∷ xs) zero row is =
    let same : x ≡ row = cc in
    omega (arith, count-cons (is_timer_of row.tid) x (living xs), ap one (eq-eqb x.tid row.tid (ap (λ (r : TimerRow). r.tid) same)))
once_before (None ∷ xs) (suc i) row is = once_before xs i row is
once_before (Some x ∷ xs) (suc i) row is =
    omega (arith, once_before xs i row is, count-cons (is_timer_of row.tid) x (living xs), count-cons (is_timer_of row.tid) x (living (take i xs)))

module _ (leaves : List (Option TimerRow)) (once : IsOnce leaves) (dues : List ℕ) (index : Found) (i : ℕ) (within : i < length leaves)
    (was : IsFiled (take i leaves) dues index) where
  taken : length (take i leaves) ≡ i
  taken = omega (arith, length-take i leaves, within)

  pub few_filed : length leaves ≤ length dues → length dues ≤ index.room → count_of index < index.room
  few_filed fits room = omega (arith, was.counted, few_living (take i leaves), taken, within, fits, room)

  pub IsFiled-next_none : get_or leaves i None ≡ None → IsFiled (take (i + 1) leaves) dues index
  IsFiled-next_none is = rw (take_more leaves i None within, is) (IsFiled-none (take i leaves) dues index was)

  module _ (row : TimerRow) (is : get_or leaves i None ≡ Some row) where
    none_before : first_of (is_timer_of row.tid) (take i leaves) ≡ None
    none_before = uncounted_found row.tid (take i leaves) (omega (arith, once row.tid, once_before leaves i row is))

    pub unfiled : place_of index row.tid ≡ None
    unfiled = was.found row.tid ∙ none_before

    pub IsFiled-next_some : (index' : Found) → i < length dues → Puts (place_of index) (place_of index') row.tid (Some i)
        → count_of index' ≡ count_of index + 1 → IsFiled (take (i + 1) leaves) (set dues i row.due) index'
    IsFiled-next_some index' room puts count =
        rw (take_more leaves i None within, is)
        (rw taken at (IsFiled-some (take i leaves) dues index was row index' (rw taken room) none_before (rw taken puts) count))

-- ---- with room

-- the thread of a leaf is found
some_there : (t : ℕ) (xs : List (Option TimerRow)) (j : ℕ) (row : TimerRow) → get_or xs j None ≡ Some row → row.tid ≡ t → IsSome (first_of (is_timer_of t) xs)
some_there t [] j row is same = absurd (cc)
some_there t (None ∷ xs) zero row is same = absurd (cc)
some_there t (Some x ∷ xs) zero row is same =
    let whole : x ≡ row = cc in
    rw (eq-eqb x.tid t (ap (λ (r : TimerRow). r.tid) whole ∙ same)) refl
some_there t (x ∷ xs) (suc j) row is same = by_test (passes (is_timer_of t) x) (first_of (is_timer_of t) xs) (some_there t xs j row is same)
  where
    by_test : (b : Bool) (o : Option ℕ) → IsSome o → IsSome (cond b (Some 0) (option_map suc o))
    by_test true o some = refl
    by_test false None some = absurd (cc)
    by_test false (Some i) some = refl

module _ (leaves : List (Option TimerRow)) (dues : List ℕ) (index : Found) (places : ℕ) (was : IsShelved leaves dues index places) where
  module _ (j : ℕ) (row : TimerRow) (within : j < length leaves) (is : get_or leaves j None ≡ Some row) where
    pub some_filed : IsSome (place_of index row.tid)
    some_filed = rw (was.filed.found row.tid) (some_there row.tid leaves j row is refl)

    pub IsShelved-emptied : (index' : Found) → Puts (place_of index) (place_of index') row.tid None → count_of index' + 1 ≡ count_of index
        → width_of index' ≡ width_of index → index'.room ≡ index.room → IsShelved (set leaves j None) (set dues j never) index' places
    IsShelved-emptied index' puts count width room = record {
      filed = record {
        tied = IsTied-emptied leaves dues was.filed.tied j within was.fits;
        found = λ t. elim (cases_eq t row.tid) [
          | inl same ↦ rw same (puts.here ∙ sym (first-emptied_same leaves was.once j row is))
          | inr away ↦ puts.others t away ∙ was.filed.found t ∙ sym (first-emptied_other leaves was.once j row is t away)
        ];
        counted = omega (arith, count, was.filed.counted, living-set leaves j None within, ap held is);
      };
      once = IsOnce-emptied leaves was.once j row is;
      fits = omega (arith, was.fits, length-set leaves j None, length-set dues j never);
      cells = omega (arith, width, was.cells, length-set dues j never);
      room = omega (arith, room, was.room, length-set dues j never);
      capacity = omega (arith, was.capacity, length-set dues j never);
    }

  module _ (row : TimerRow) (new : list_any (is_timer_of row.tid) (living leaves) ≡ false) (room : length leaves < length dues) where
    pub unfiled_new : place_of index row.tid ≡ None
    unfiled_new = was.filed.found row.tid ∙ unfound_new leaves was.once row new

    pub few_new : count_of index < index.room
    few_new = omega (arith, was.filed.counted, few_living leaves, room, was.room)

    pub IsShelved-push : (index' : Found) → Puts (place_of index) (place_of index') row.tid (Some (length leaves))
        → count_of index' ≡ count_of index + 1 → width_of index' ≡ width_of index → index'.room ≡ index.room
        → IsShelved (leaves ++ Some row ∷ []) (set dues (length leaves) row.due) index' places
    IsShelved-push index' puts count width same = record {
      filed = IsFiled-some leaves dues index was.filed row index' room (unfound_new leaves was.once row new) puts count;
      once = IsOnce-push leaves was.once row new;
      fits = omega (arith, room, length_push leaves (Some row), length-set dues (length leaves) row.due);
      cells = omega (arith, width, was.cells, length-set dues (length leaves) row.due);
      room = omega (arith, same, was.room, length-set dues (length leaves) row.due);
      capacity = omega (arith, was.capacity, length-set dues (length leaves) row.due);
    }

  pub IsOnce-closed : IsOnce (filter is_some leaves)
  IsOnce-closed = IsOnce-packed leaves was.once

  pub closed_fits : length (filter is_some leaves) ≤ length dues
  closed_fits = omega (arith, length-packed leaves, few_living leaves, was.fits)

  -- the same leaves or fewer, filed anew
  pub IsShelved-filed : (leaves' : List (Option TimerRow)) (dues' : List ℕ) (index' : Found) (places' : ℕ) → IsOnce leaves'
      → IsFiled leaves' dues' index' → length leaves' ≤ length dues' → width_of index' ≡ length dues' → length dues' ≤ index'.room
      → length dues' ≤ places' → IsShelved leaves' dues' index' places'
  IsShelved-filed leaves' dues' index' places' once filed fits cells room capacity = record {
    filed = filed;
    once = once;
    fits = fits;
    cells = cells;
    room = room;
    capacity = capacity;
  }
