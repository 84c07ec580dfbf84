-- Each call keeps the invariant of a `WaitingList`'s fields; and what the entries say of those that wait.
use Rattle.lwp_types.proofs.Ranks.{map-filter}
use Rattle.lwp_types.specs.Choice.{best_by}
use Rattle.lwp_types.specs.CountLaws.{count-cons, count-push, count_and-le, count_any, count_none, find_none, one, one-le}
use Rattle.lwp_types.specs.OnlyLaws.{count_at, filter_none, map_none, remove_only, set_only}
use Rattle.std.proofs.Common.{Bool, IfNone, IfSome, IsSome, List, None, Option, Some, [], ap, arith, cond, count_by, false, get_or, inl, inr}
use Rattle.std.proofs.Common.{is_some, length, map, not, refl, set, suc, sym, true, zero, ℕ, ◌&&◌, ◌++◌, ◌+◌, ◌<◌, ◌∙◌, ◌∷◌, ◌≡◌, ◌≤◌}
use Rattle.std.proofs.lemmas.Bool.{cases_eq, eq-eqb, ne_eqb}
use Rattle.std.proofs.lemmas.List.Edits.{length-remove}
use Rattle.std.proofs.lemmas.List.Sums.{sum_by-remove, sum_by-set}
use Rattle.std.proofs.lemmas.List.{length-set, length_push}
use Rattle.std.specs.List.{AllByRecursion, filter, find, list_any, remove}
use Rattle.std.specs.Prelude.{option_map}
use Rattle.lists.proofs.WaitingLaws.EntryLaws.{count_waits, find_wait, no_entry}
use Rattle.lists.proofs.WaitingLaws.FilingLaws.{IsIndexed-push, IsIndexed-remove, IsIndexed-set}
use Rattle.lists.specs.ThreadIndex.{Found, Puts, count_of, place_of, width_of}
use Rattle.lists.proofs.WaitingLaws.KnownLaws.{IsKnown-push, IsKnown-remove, IsKnown-set}
use Rattle.lists.specs.WaitingList.Entries.{IsIndexed, IsArrivalOf, IsBestAt, IsKnown, IsSortedOut, IsOnce, IsThreadAt, arrivals, entry_of}
use Rattle.lists.specs.WaitingList.Entries.{has_arrival, is_entry_for, is_entry_of, waiting_of}
use Rattle.lists.specs.WaitingList.Kept.{IsKept}
use Rattle.lists.specs.WaitingList.Line.{is_for, is_thread, waiting_with_priority}
use Rattle.lists.specs.declared.waiting_list.keys.Key.{Key}
use Rattle.lists.specs.declared.waiting_list.rows.Entry.{Entry}
use Rattle.lists.specs.declared.waiting_list.rows.Waiting.{Waiting}

length_waits : (es : List Entry) → length (map waiting_of es) ≡ length es
length_waits [] = refl
length_waits (e ∷ es) = ap suc (length_waits es)

-- ---- questions

pub filtered_none : {X : Type 0} (p : X → Bool) (ws : List X) → count_by p ws ≡ 0 → filter p ws ≡ []
filtered_none p [] none = refl
filtered_none p (w ∷ ws) none = by_test (filtered_none p ws) (p w) refl
  where
    by_test : (count_by p ws ≡ 0 → filter p ws ≡ []) → (b : Bool) → p w ≡ b → cond b (w ∷ filter p ws) (filter p ws) ≡ []
    by_test rest true e = absurd (omega (arith, none, count-cons p w ws, ap one e))
    by_test rest false e = rest (omega (arith, none, count-cons p w ws))

pub none_chosen : (n : ℕ) (es : List Entry) → count_by (is_entry_for n) es ≡ 0
    → best_by (λ (w : Waiting). w.prio) (filter (is_for n) (map waiting_of es)) ≡ None
none_chosen n es none = ap (best_by (λ (w : Waiting). w.prio)) (filtered_none (is_for n) (map waiting_of es) (omega (arith, none, count_waits (is_for n) es)))

pub no_first : (n : ℕ) (es : List Entry) → count_by (is_entry_for n) es ≡ 0 → find (is_for n) (map waiting_of es) ≡ None
no_first n es none = find_none (is_for n) (map waiting_of es) (omega (arith, none, count_waits (is_for n) es))

count_both-le : {X : Type 0} (p q : X → Bool) (xs : List X) → count_by (λ x. p x && q x) xs ≤ count_by q xs
count_both-le p q [] = omega arith
count_both-le p q (x ∷ xs) = omega (arith, count-cons (λ x. p x && q x) x xs, count-cons q x xs, by_test (p x), count_both-le p q xs)
  where
    by_test : (b : Bool) → one (b && q x) ≤ one (q x)
    by_test true = omega arith
    by_test false = omega arith

-- where one alone passes q, it is found if it passes p as well
find_only : {X : Type 0} (p q : X → Bool) (xs : List X) (i : ℕ) (d : X) → count_by q xs ≤ 1 → i < length xs → q (get_or xs i d) ≡ true
    → find (λ x. p x && q x) xs ≡ cond (p (get_or xs i d)) (Some (get_or xs i d)) None
find_only p q [] i d few within passes = absurd (omega (arith, within))
find_only p q (x ∷ xs) zero d few within passes = rw passes (by_test (p x))
  where
    rest : find (λ x. p x && q x) xs ≡ None
    rest = find_none (λ x. p x && q x) xs (omega (arith, few, count-cons q x xs, ap one passes, count_both-le p q xs))

    by_test : (b : Bool) → cond (b && true) (Some x) (find (λ x. p x && q x) xs) ≡ cond b (Some x) None
    by_test true = refl
    by_test false = rest
find_only p q (x ∷ xs) (suc i) d few within passes = by_test (find_only p q xs i d) (q x) refl
  where
    by_other : (b : Bool) → (b && false) ≡ false
    by_other true = refl
    by_other false = refl

    by_test : (count_by q xs ≤ 1 → i < length xs → q (get_or xs i d) ≡ true → find (λ x. p x && q x) xs ≡ cond (p (get_or xs i d)) (Some (get_or xs i d)) None)
        → (b : Bool) → q x ≡ b → find (λ x. p x && q x) (x ∷ xs) ≡ cond (p (get_or xs i d)) (Some (get_or xs i d)) None
    by_test rest true e = absurd (omega (arith, few, count-cons q x xs, ap one e, count_at q xs i d (omega (arith, within)) passes))
    by_test rest false e = rw (e, by_other (p x)) (rest (omega (arith, few, count-cons q x xs)) (omega (arith, within)) passes)

pub not_found : (n t : ℕ) (es : List Entry) → count_by (is_entry_of t) es ≡ 0 → find (λ w. is_for n w && is_thread t w) (map waiting_of es) ≡ None
not_found n t es none = find_none (λ w. is_for n w && is_thread t w) (map waiting_of es)
    (omega (arith, none, count_waits (is_thread t) es, count_both-le (is_for n) (is_thread t) (map waiting_of es)))

list_none : (p : Waiting → Bool) (ws : List Waiting) → count_by p ws ≡ 0 → list_any p ws ≡ false
list_none p ws none = by_any (list_any p ws) refl
  where
    by_any : (b : Bool) → list_any p ws ≡ b → b ≡ false
    by_any false e = refl
    by_any true e = absurd (omega (arith, none, count_any p ws e))

-- whether somebody waits is whether there is a best
pub has_best : (n : ℕ) (es : List Entry) (o : Option ℕ) → IfNone o (count_by (is_entry_for n) es ≡ 0) → IfSome o (IsBestAt n es)
    → is_some o ≡ list_any (is_for n) (map waiting_of es)
has_best n es None none some = sym (list_none (is_for n) (map waiting_of es) (omega (arith, none, count_waits (is_for n) es)))
has_best n es (Some at) none some = by_any (list_any (is_for n) (map waiting_of es)) refl
  where
    by_any : (b : Bool) → list_any (is_for n) (map waiting_of es) ≡ b → true ≡ b
    by_any true e = refl
    by_any false e =
        let nobody = none_chosen n es (omega (arith, count_none (is_for n) (map waiting_of es) e, count_waits (is_for n) es)) in
        absurd (cc (nobody, some.best (get_or es at no_entry)))

same_tids : (es : List Entry) → map (λ (w : Waiting). w.tid) (map waiting_of es) ≡ map (λ (e : Entry). e.tid) es
same_tids [] = refl
same_tids (e ∷ es) = ap (λ ts. e.tid ∷ ts) (same_tids es)

pub tids_are : (n : ℕ) (es : List Entry)
    → map (λ (w : Waiting). w.tid) (filter (is_for n) (map waiting_of es)) ≡ map (λ (e : Entry). e.tid) (filter (is_entry_for n) es)
tids_are n es = ap (map (λ (w : Waiting). w.tid)) (map-filter waiting_of (is_for n) es) ∙ same_tids (filter (is_entry_for n) es)

-- ---- who isn't there

pub none_left : (t : ℕ) (es : List Entry) → count_by (is_entry_of t) es ≡ 0 → filter (λ w. not (is_thread t w)) (map waiting_of es) ≡ map waiting_of es
none_left t es none = filter_none (is_thread t) (map waiting_of es) (omega (arith, none, count_waits (is_thread t) es))

pub none_prioritized : (t p : ℕ) (es : List Entry) → count_by (is_entry_of t) es ≡ 0 → map (waiting_with_priority t p) (map waiting_of es) ≡ map waiting_of es
none_prioritized t p es none = map_none (is_thread t) (waiting_with_priority t p)
    (λ x other. ap (λ b. record x { prio = cond b p x.prio }) other) (map waiting_of es) (omega (arith, none, count_waits (is_thread t) es))

-- ---- changes

pub once_same : (es es' : List Entry) → map waiting_of es' ≡ map waiting_of es → IsOnce es → IsOnce es'
once_same es es' same once t = omega (arith, once t, count_waits (is_thread t) es, count_waits (is_thread t) es', ap (count_by (is_thread t)) same)

module _ (es : List Entry) (ranks arrived : List Key) (index : Found) (room rank_room arrived_room places : ℕ)
    (was : IsKept es ranks arrived index room rank_room arrived_room places) where
  -- one more waits
  pub IsKept-joined : (es' : List Entry) (ranks' arrived' : List Key) (index' : Found) (n : ℕ) (w : Waiting) (e : Entry)
      (more_ranks more_arrived : List Key) (more_index : Found) (room' rank_room' arrived_room' : ℕ)
      → map waiting_of es' ≡ map waiting_of es → IsIndexed es' ranks' arrived' → IsKnown es' index'
      → AllByRecursion (λ m. m < n) (arrivals es') → e ≡ entry_of n w
      → list_any (is_thread w.tid) (map waiting_of es) ≡ false → length (map waiting_of es) < places
      → IsSortedOut (es' ++ e ∷ []) more_ranks more_arrived
      → Puts (place_of index') (place_of more_index) w.tid (Some n) → count_of more_index ≡ count_of index' + 1
      → places ≤ room' → places ≤ rank_room' → places ≤ arrived_room' → places ≤ width_of more_index → width_of more_index ≤ more_index.room
      → IsKept (es' ++ e ∷ []) more_ranks more_arrived more_index room' rank_room' arrived_room' places
  IsKept-joined es' ranks' arrived' index' n w e more_ranks more_arrived more_index room' rank_room' arrived_room' same indexed known later
      is new more sorted puts count fits rank_fits arrived_fits cells index_fits =
      record {
        once = λ t. elim (cases_eq e.tid t) [
          | inl here ↦ omega (arith, count-push (is_entry_of t) es' e, one-le (is_entry_of t e), nobody t (sym (ap (λ (x : Entry). x.tid) is) ∙ here))
          | inr other ↦ omega (arith, count-push (is_entry_of t) es' e, ap one (ne_eqb e.tid t other), once_same es es' same was.once t)
        ];
        indexed = IsIndexed-push es' ranks' arrived' indexed e more_ranks more_arrived (rw is later) sorted;
        known = IsKnown-push es' index' more_index known e (rw is puts) count;
        fits = omega (arith, length_push es' e, more, length_waits es, length_waits es', ap length same);
        places_fit = fits;
        ranks_fit = rank_fits;
        arrived_fit = arrived_fits;
        cells = cells;
        index_room = index_fits;
      }
    where
      nobody : (t : ℕ) → w.tid ≡ t → count_by (is_entry_of t) es' ≡ 0
      nobody t is_t =
          omega (arith, count_waits (is_thread t) es', ap (count_by (is_thread t)) same, count_none (is_thread t) (map waiting_of es) (rw is_t at new))

  -- who doesn't wait isn't known
  pub unknown_new : (es' : List Entry) (index' : Found) (t : ℕ) → map waiting_of es' ≡ map waiting_of es → IsKnown es' index'
      → list_any (is_thread t) (map waiting_of es) ≡ false → place_of index' t ≡ None
  unknown_new es' index' t same known new = by_place (place_of index' t) (known.each t)
    where
      by_place : (o : Option ℕ) → IsArrivalOf es' t o → o ≡ None
      by_place None none = refl
      by_place (Some n) some = absurd (omega (
        arith,
        some,
        count_and-le (is_entry_of t) (has_arrival n) es',
        count_waits (is_thread t) es',
        ap (count_by (is_thread t)) same,
        count_none (is_thread t) (map waiting_of es) new,
      ))

  pub few_known_new : (es' : List Entry) (index' : Found) → map waiting_of es' ≡ map waiting_of es → IsKnown es' index'
      → length (map waiting_of es) < places → count_of index' < places
  few_known_new es' index' same known more = omega (arith, known.counted, length_waits es', ap length same, more)

  module _ (t i : ℕ) (e : Entry) (there : IsThreadAt t es i) (here : e ≡ get_or es i e) where
    passes : is_entry_of t (get_or es i e) ≡ true
    passes = eq-eqb (get_or es i e).tid t (there.here e)

    is_t : is_entry_of t e ≡ true
    is_t = ap (is_entry_of t) here ∙ passes

    -- the index has it
    pub thread_known : IsSome (place_of index t)
    thread_known = by_place (place_of index t) (was.known.each t)
      where
        by_place : (o : Option ℕ) → IsArrivalOf es t o → IsSome o
        by_place None none = absurd (omega (arith, none, count_at (is_entry_of t) es i e there.within passes))
        by_place (Some n) some = refl

    pub found_there : (n : ℕ) → find (λ w. is_for n w && is_thread t w) (map waiting_of es) ≡ option_map waiting_of (cond (is_entry_for n e) (Some e) None)
    found_there n =
        find_wait (λ w. is_for n w && is_thread t w) es
        ∙ ap (option_map waiting_of)
        (find_only (is_entry_for n) (is_entry_of t) es i e (was.once t) there.within passes ∙ ap (λ x. cond (is_entry_for n x) (Some x) None) (sym here))

    pub left_there : map waiting_of (remove es i) ≡ filter (λ w. not (is_thread t w)) (map waiting_of es)
    left_there = ap (map waiting_of) (remove_only (is_entry_of t) es i e (was.once t) there.within passes)
        ∙ sym (map-filter waiting_of (λ w. not (is_thread t w)) es)

    -- it waits no more
    pub IsKept-left : (ranks' arrived' : List Key) (index' : Found) (rank_room' arrived_room' : ℕ)
        → IsSortedOut (remove es i) ranks' arrived'
        → Puts (place_of index) (place_of index') t None → count_of index' + 1 ≡ count_of index
        → places ≤ rank_room' → places ≤ arrived_room' → places ≤ width_of index' → width_of index' ≤ index'.room
        → IsKept (remove es i) ranks' arrived' index' room rank_room' arrived_room' places
    IsKept-left ranks' arrived' index' rank_room' arrived_room' sorted puts count rank_fits arrived_fits cells index_fits = record {
      once = λ u. omega (arith, was.once u, sum_by-remove (λ x. one (is_entry_of u x)) es i e there.within);
      indexed = IsIndexed-remove es ranks arrived was.indexed i ranks' arrived' sorted;
      known = IsKnown-remove es index index' was.known t i e there.within here (ap (λ (x : Entry). x.tid) here ∙ there.here e) (was.once t) puts count;
      fits = omega (arith, was.fits, length-remove es i there.within);
      places_fit = was.places_fit;
      ranks_fit = rank_fits;
      arrived_fit = arrived_fits;
      cells = cells;
      index_room = index_fits;
    }

    -- it has another priority
    abbrev with_prio : ℕ → ℕ → Entry → Entry
    with_prio p q x = record x { prio = cond (is_entry_of t x) p x.prio; filed = cond (is_entry_of t x) q x.filed }

    waits_prio : (p q : ℕ) (xs : List Entry) → map waiting_of (map (with_prio p q) xs) ≡ map (waiting_with_priority t p) (map waiting_of xs)
    waits_prio p q [] = refl
    waits_prio p q (x ∷ xs) = ap (λ ws. waiting_of (with_prio p q x) ∷ ws) (waits_prio p q xs)

    pub prioritized_there : (p q : ℕ) → map waiting_of (set es i (record e { prio = p; filed = q })) ≡ map (waiting_with_priority t p) (map waiting_of es)
    prioritized_there p q =
        ap (λ b. map waiting_of (set es i (record e { prio = cond b p e.prio; filed = cond b q e.filed }))) (sym is_t)
        ∙ ap (map waiting_of) (set_only (is_entry_of t) (with_prio p q)
        (λ x other. ap (λ b. record x { prio = cond b p x.prio; filed = cond b q x.filed }) other) es i e (was.once t) there.within here is_t)
        ∙ waits_prio p q es

    pub IsKept-prioritized : (p q : ℕ) (ranks' arrived' : List Key) (rank_room' arrived_room' : ℕ)
        → IsSortedOut (set es i (record e { prio = p; filed = q })) ranks' arrived'
        → places ≤ rank_room' → places ≤ arrived_room'
        → IsKept (set es i (record e { prio = p; filed = q })) ranks' arrived' index room rank_room' arrived_room' places
    IsKept-prioritized p q ranks' arrived' rank_room' arrived_room' sorted rank_fits arrived_fits = record {
      once = λ u. omega (
        arith,
        was.once u,
        sum_by-set (λ x. one (is_entry_of u x)) es i (record e { prio = p; filed = q }) e there.within,
        ap (λ x. one (is_entry_of u x)) here,
      );
      indexed = IsIndexed-set es ranks arrived was.indexed i e (record e { prio = p; filed = q }) ranks' arrived' there.within here refl sorted;
      known = IsKnown-set es index was.known i p q e there.within here;
      fits = omega (arith, was.fits, length-set es i (record e { prio = p; filed = q }));
      places_fit = was.places_fit;
      ranks_fit = rank_fits;
      arrived_fit = arrived_fits;
      cells = was.cells;
      index_room = was.index_room;
    }

  -- there is more room
  pub IsKept-roomier : (more more_ranks more_arrived many : ℕ) → many ≤ more → many ≤ more_ranks → many ≤ more_arrived
      → many ≤ width_of index → length es ≤ many → IsKept es ranks arrived index more more_ranks more_arrived many
  IsKept-roomier more more_ranks more_arrived many fits rank_fits arrived_fits cells some = record {
    once = was.once;
    indexed = was.indexed;
    known = was.known;
    fits = some;
    places_fit = fits;
    ranks_fit = rank_fits;
    arrived_fit = arrived_fits;
    cells = cells;
    index_room = was.index_room;
  }

  -- another index knows them too
  pub IsKept-known : (index' : Found) → IsKnown es index' → places ≤ width_of index' → width_of index' ≤ index'.room
      → IsKept es ranks arrived index' room rank_room arrived_room places
  IsKept-known index' known cells index_fits = record {
    once = was.once;
    indexed = was.indexed;
    known = known;
    fits = was.fits;
    places_fit = was.places_fit;
    ranks_fit = was.ranks_fit;
    arrived_fit = was.arrived_fit;
    cells = cells;
    index_room = index_fits;
  }
