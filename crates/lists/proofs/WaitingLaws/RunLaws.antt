-- Those that wait for one thing, as the keys by arrival list them.
use Rattle.lwp_types.proofs.Ranks.{All-filter, map-filter}
use Rattle.lwp_types.specs.CountLaws.{count-cons, find_none, one}
use Rattle.std.proofs.Common.{Bool, List, Some, [], ap, arith, cond, count_by, drop, eqb, false, get_or, inl, inr, length, map, refl, suc, sym, true}
use Rattle.std.proofs.Common.{zero, ℕ, ◌++◌, ◌<◌, ◌∙◌, ◌∷◌, ◌≡◌, ◌≢◌, ◌≤◌}
use Rattle.std.proofs.lemmas.Bool.{cases_eq, eq-eqb, eqb-false, eqb-true, le-ltb, ne_eqb}
use Rattle.std.proofs.lemmas.List.{append_assoc}
use Rattle.std.specs.List.{AllByRecursion, filter, find}
use Rattle.lists.proofs.WaitingLaws.EntryLaws.{any_default, no_entry, rises}
use Rattle.lists.proofs.WaitingLaws.KeyLaws.{before_same, found_at, key_from, key_itself, ordered, same_key, some_at}
use Rattle.lists.specs.WaitingList.Entries.{AreRising, IsAt, IsFiled, arrival_key, arrivals, has_arrival, is_entry_for, tid_in, tid_or}
use Rattle.lists.specs.WaitingList.Keys.{IsEnd, IsSorted, IsStart, is_before, is_key, is_of}
use Rattle.lists.specs.declared.waiting_list.keys.Key.{Key}
use Rattle.lists.specs.declared.waiting_list.rows.Entry.{Entry}

-- the thread whose key it is
abbrev pub thread_of : List Entry → Key → ℕ
thread_of es k = tid_in es k.arrival

-- the threads of the keys of n
abbrev pub listed : List Entry → ℕ → List Key → List ℕ
listed es n ks = map (thread_of es) (filter (is_of n) ks)

-- ---- part by part

drop_less : (n : ℕ) (ks : List Key) (s : ℕ) → ((j : ℕ) (d : Key) → j < s → (get_or ks j d).what < n) → filter (is_of n) (drop s ks) ≡ filter (is_of n) ks
drop_less n ks zero less = refl
drop_less n [] (suc s) less = refl
drop_less n (k ∷ ks) (suc s) less =
    rw (ne_eqb k.what n (λ e. absurd (omega (arith, less 0 k (omega arith), e)))) (drop_less n ks s (λ j d lt. less (suc j) d (omega (arith, lt))))

drop_more : (ks : List Key) (at : ℕ) (k : Key) → at < length ks → k ≡ get_or ks at k → drop at ks ≡ k ∷ drop (suc at) ks
drop_more [] at k within here = absurd (omega (arith, within))
drop_more (l ∷ ks) zero k within here = ap (λ m. m ∷ ks) (sym here)
drop_more (l ∷ ks) (suc at) k within here = drop_more ks at k (omega (arith, within)) here

drop_other : (n : ℕ) (ks : List Key) (at : ℕ) → ((j : ℕ) (d : Key) → at ≤ j → j < length ks → eqb (get_or ks j d).what n ≡ false)
    → filter (is_of n) (drop at ks) ≡ []
drop_other n [] zero other = refl
drop_other n [] (suc at) other = refl
drop_other n (k ∷ ks) zero other =
    rw (other 0 k (omega arith) (omega arith)) (drop_other n ks zero (λ j d le lt. other (suc j) d (omega arith) (omega (arith, lt))))
drop_other n (k ∷ ks) (suc at) other = drop_other n ks at (λ j d le lt. other (suc j) d (omega (arith, le)) (omega (arith, lt)))

append_empty : (ns : List ℕ) → ns ++ [] ≡ ns
append_empty [] = refl
append_empty (n ∷ ns) = ap (λ ms. n ∷ ms) (append_empty ns)

module _ (es : List Entry) (n : ℕ) (ks : List Key) where
  pub run_start : (s : ℕ) → IsStart n ks s → listed es n ks ≡ listed es n (drop s ks)
  run_start s start = ap (map (thread_of es)) (sym (drop_less n ks s start.before))

  pub run_step : (at next : ℕ) (k : Key) (ids : List ℕ) → next ≡ suc at → at < length ks → k ≡ get_or ks at k → k.what ≡ n
      → listed es n ks ≡ ids ++ listed es n (drop at ks) → listed es n ks ≡ (ids ++ thread_of es k ∷ []) ++ listed es n (drop next ks)
  run_step at next k ids then within here same was =
      was
      ∙ ap (λ ls. ids ++ listed es n ls) (drop_more ks at k within here)
      ∙ (rw (then, eq-eqb k.what n same) (sym (append_assoc ids (thread_of es k ∷ []) (listed es n (drop (suc at) ks)))))

  pub run_end : (at e : ℕ) (ids : List ℕ) → IsEnd n ks e → e ≤ at → listed es n ks ≡ ids ++ listed es n (drop at ks) → listed es n ks ≡ ids
  run_end at e ids end past was =
      let none : filter (is_of n) (drop at ks)
      ≡ [] = drop_other n ks at (λ j d le lt.
      ne_eqb (get_or ks j d).what n (λ same. absurd (omega (arith, same, end.after j d (omega (arith, past, le)) lt)))) in
      was ∙ ap (λ ls. ids ++ map (thread_of es) ls) none ∙ append_empty ids

-- ---- all of them

not_less : (k l : Key) (ls : List Key) → IsSorted (l ∷ ls) → 1 ≤ count_by (is_key k) (l ∷ ls) → is_before k l ≡ false
not_less k l ls sorted some =
    let at = some_at (is_key k) (l ∷ ls) k some in
    ap (λ m. is_before m l) (sym (same_key k (get_or (l ∷ ls) at.0 k) at.2)) ∙ ordered (l ∷ ls) 0 at.0 k sorted (omega arith) at.1

-- keys in order are determined by which keys they are
sorted_same : (ks ls : List Key) → IsSorted ks → IsSorted ls → ((k : Key) → count_by (is_key k) ks ≡ count_by (is_key k) ls) → ks ≡ ls
sorted_same [] [] first second same = refl
sorted_same [] (l ∷ ls) first second same = absurd (omega (arith, same l, count-cons (is_key l) l ls, ap one (key_itself l)))
sorted_same (k ∷ ks) [] first second same = absurd (omega (arith, same k, count-cons (is_key k) k ks, ap one (key_itself k)))
sorted_same (k ∷ ks) (l ∷ ls) first second same =
    let forth = not_less k l ls second (omega (arith, same k, count-cons (is_key k) k ks, ap one (key_itself k))) in
    let back = not_less l k ks first (omega (arith, same l, count-cons (is_key l) l ls, ap one (key_itself l))) in
    let heads : k ≡ l = key_from l k (before_same k l forth back) in
    let tails = sorted_same ks ls first.1 second.1
    (λ m. omega (arith, same m, count-cons (is_key m) k ks, count-cons (is_key m) l ls, ap (λ x. one (is_key m x)) heads)) in
    ap (λ m. m ∷ ks) heads ∙ ap (λ ms. l ∷ ms) tails

module _ (n : ℕ) where
  counted_here : (k : Key) (ks : List Key) → k.what ≡ n → count_by (is_key k) (filter (is_of n) ks) ≡ count_by (is_key k) ks
  counted_here k [] same = refl
  counted_here k (l ∷ ks) same = by_test (counted_here k ks same) (is_of n l) refl
    where
      by_test : count_by (is_key k) (filter (is_of n) ks) ≡ count_by (is_key k) ks → (b : Bool) → is_of n l ≡ b
          → count_by (is_key k) (cond b (l ∷ filter (is_of n) ks) (filter (is_of n) ks)) ≡ count_by (is_key k) (l ∷ ks)
      by_test rest true e = omega (arith, rest, count-cons (is_key k) l (filter (is_of n) ks), count-cons (is_key k) l ks)
      by_test rest false e =
          let other : is_key k l ≡ false = rw (ne_eqb l.what k.what (λ x. eqb-false l.what n e (x ∙ same))) refl in
          omega (arith, rest, count-cons (is_key k) l ks, ap one other)

  counted_other : (k : Key) (ks : List Key) → k.what ≢ n → count_by (is_key k) (filter (is_of n) ks) ≡ 0
  counted_other k [] away = refl
  counted_other k (l ∷ ks) away = by_test (counted_other k ks away) (is_of n l) refl
    where
      by_test : count_by (is_key k) (filter (is_of n) ks) ≡ 0 → (b : Bool) → is_of n l ≡ b
          → count_by (is_key k) (cond b (l ∷ filter (is_of n) ks) (filter (is_of n) ks)) ≡ 0
      by_test rest true e =
          let other : is_key k l ≡ false = rw (ne_eqb l.what k.what (λ x. away (sym x ∙ eqb-true l.what n e))) refl in
          omega (arith, rest, count-cons (is_key k) l (filter (is_of n) ks), ap one other)
      by_test rest false e = rest

  sorted_filter : (ks : List Key) → IsSorted ks → IsSorted (filter (is_of n) ks)
  sorted_filter [] sorted = tt
  sorted_filter (k ∷ ks) sorted = by_test (sorted_filter ks sorted.1) (is_of n k)
    where
      by_test : IsSorted (filter (is_of n) ks) → (b : Bool) → IsSorted (cond b (k ∷ filter (is_of n) ks) (filter (is_of n) ks))
      by_test rest true = (All-filter (λ l. is_before l k ≡ false) (is_of n) ks sorted.0, rest)
      by_test rest false = rest

  -- one that came later and waits for the same has a later key
  all_later : (e : Entry) (xs : List Entry) → e.what ≡ n → AllByRecursion (λ m. e.arrival < m) (arrivals xs)
      → AllByRecursion (λ l. is_before l (arrival_key e) ≡ false) (filter (is_of n) (map arrival_key xs))
  all_later e [] same all = tt
  all_later e (x ∷ xs) same all = by_test (all_later e xs same all.1) (eqb x.what n) refl
    where
      by_test : AllByRecursion (λ l. is_before l (arrival_key e) ≡ false) (filter (is_of n) (map arrival_key xs)) → (b : Bool) → eqb x.what n ≡ b
          → AllByRecursion (λ l. is_before l (arrival_key e) ≡ false)
          (cond b (arrival_key x ∷ filter (is_of n) (map arrival_key xs)) (filter (is_of n) (map arrival_key xs)))
      by_test rest true is = (rw (eq-eqb x.what e.what (eqb-true x.what n is ∙ sym same)) (le-ltb x.arrival e.arrival (omega (arith, all.0))), rest)
      by_test rest false is = rest

  sorted_run : (es : List Entry) → AreRising (arrivals es) → IsSorted (filter (is_of n) (map arrival_key es))
  sorted_run [] rising = tt
  sorted_run (e ∷ es) rising = by_test (sorted_run es rising.1) (eqb e.what n) refl
    where
      by_test : IsSorted (filter (is_of n) (map arrival_key es)) → (b : Bool) → eqb e.what n ≡ b
          → IsSorted (cond b (arrival_key e ∷ filter (is_of n) (map arrival_key es)) (filter (is_of n) (map arrival_key es)))
      by_test rest true is = (all_later e es (eqb-true e.what n is) rising.0, rest)
      by_test rest false is = rest

count_mapped : (p : Key → Bool) (es : List Entry) → count_by p (map arrival_key es) ≡ count_by (λ e. p (arrival_key e)) es
count_mapped p [] = refl
count_mapped p (e ∷ es) = omega (arith, count-cons p (arrival_key e) (map arrival_key es), count-cons (λ e. p (arrival_key e)) e es, count_mapped p es)

-- ---- their threads

pub found_arrival : (es : List Entry) (n i : ℕ) (d : Entry) → AreRising (arrivals es) → i < length es → (get_or es i no_entry).arrival ≡ n
    → find (has_arrival n) es ≡ Some (get_or es i d)
found_arrival es n i d rising within here =
    found_at (has_arrival n) es i no_entry within (eq-eqb (get_or es i no_entry).arrival n here)
    (λ j lt. ne_eqb (get_or es j no_entry).arrival n (λ e. absurd (omega (arith, rises es j i no_entry rising lt within, e, here))))
    ∙ ap Some (any_default es i no_entry d within)

pub nobody_came : (es : List Entry) (n : ℕ) → count_by (has_arrival n) es ≡ 0 → tid_in es n ≡ 0
nobody_came es n none = ap tid_or (find_none (has_arrival n) es none)

pub somebody_came : (es : List Entry) (n i : ℕ) (e : Entry) → AreRising (arrivals es) → IsAt n es i → e ≡ get_or es i e → e.tid ≡ tid_in es n
somebody_came es n i e rising at here = ap (λ (x : Entry). x.tid) here ∙ sym (ap tid_or (found_arrival es n i e rising at.within (at.here no_entry)))

all_from : (P : Entry → Type 0) (es : List Entry) → ((i : ℕ) → i < length es → P (get_or es i no_entry)) → AllByRecursion P es
all_from P [] each = tt
all_from P (e ∷ es) each = (each 0 (omega arith), all_from P es (λ i lt. each (suc i) (omega (arith, lt))))

map_known : (es xs : List Entry) → AllByRecursion (λ x. tid_in es x.arrival ≡ x.tid) xs
    → map (thread_of es) (map arrival_key xs) ≡ map (λ (x : Entry). x.tid) xs
map_known es [] all = refl
map_known es (x ∷ xs) all = ap (λ t. t ∷ map (thread_of es) (map arrival_key xs)) all.0 ∙ ap (λ ts. x.tid ∷ ts) (map_known es xs all.1)

module _ (es : List Entry) (ks : List Key) (filed : IsFiled arrival_key es ks) (rising : AreRising (arrivals es)) (n : ℕ) where
  same_counts : (k : Key) → count_by (is_key k) (filter (is_of n) ks) ≡ count_by (is_key k) (filter (is_of n) (map arrival_key es))
  same_counts k = elim (cases_eq k.what n) [
    | inl same ↦ omega (arith, counted_here n k ks same, counted_here n k (map arrival_key es) same, filed.each k, count_mapped (is_key k) es)
    | inr away ↦ omega (arith, counted_other n k ks away, counted_other n k (map arrival_key es) away)
  ]

  pub all_listed : listed es n ks ≡ map (λ (e : Entry). e.tid) (filter (is_entry_for n) es)
  all_listed =
      ap (map (thread_of es)) (sorted_same (filter (is_of n) ks) (filter (is_of n) (map arrival_key es)) (sorted_filter n ks filed.sorted)
      (sorted_run n es rising) same_counts
      ∙ map-filter arrival_key (is_of n) es)
      ∙ map_known es (filter (is_entry_for n) es) (All-filter (λ x. tid_in es x.arrival ≡ x.tid) (is_entry_for n) es
      (all_from (λ x. tid_in es x.arrival ≡ x.tid) es (λ i lt. ap tid_or (found_arrival es (get_or es i no_entry).arrival i no_entry rising lt refl))))
