-- Those that wait as the keys lead to them.
use Rattle.lwp_types.specs.Choice.{better_by}
use Rattle.lwp_types.specs.CountLaws.{count-cons, count_found_by, count_not_found, one}
use Rattle.lwp_types.specs.OnlyLaws.{count_at}
use Rattle.std.proofs.Common.{Bool, List, MatchOption, None, Option, Some, [], ap, arith, cond, count_by, eqb, false, get_or, inl, inr, leb, length}
use Rattle.std.proofs.Common.{map, refl, set, suc, sym, true, zero, ℕ, ◌&&◌, ◌<◌, ◌∙◌, ◌∷◌, ◌≡◌, ◌≤◌}
use Rattle.std.proofs.lemmas.Bool.{and_parts, cases_eq, cases_lt, cases_order, eq-eqb, eqb-false, eqb-true, le-leb, lt-leb}
use Rattle.std.proofs.lemmas.List.{get_or-set_same}
use Rattle.std.specs.List.{AllByRecursion, filter, find, fold}
use Rattle.std.specs.List.Sorted.{IsNonDecreasingBy}
use Rattle.std.specs.Prelude.{option_map}
use Rattle.lists.proofs.WaitingLaws.KeyLaws.{All-at, came_later, find_passes, first_least, found_at, key_itself, prio_no_more, same_key, some_at}
use Rattle.lists.specs.WaitingList.Entries.{AreRising, IsAt, IsBestAt, IsFiled, IsFirstAt, IsThreadAt, arrival_key, arrivals, has_arrival}
use Rattle.lists.specs.WaitingList.Entries.{is_arrival_of, is_entry_of, rank_of, waiting_of}
use Rattle.lists.specs.WaitingList.Keys.{is_before, is_key, is_of}
use Rattle.lists.specs.WaitingList.Line.{is_for}
use Rattle.lists.specs.declared.waiting_list.keys.Key.{Key}
use Rattle.lists.specs.declared.waiting_list.rows.Entry.{Entry}
use Rattle.lists.specs.declared.waiting_list.rows.Waiting.{Waiting}

abbrev pub no_entry : Entry
no_entry = record { arrival = 0; what = 0; tid = 0; prio = 0; depth = 0; filed = 0 }

-- ---- arrivals

all_arrivals : (P : ℕ → Type 0) (es : List Entry) (i : ℕ) (d : Entry) → i < length es → AllByRecursion P (arrivals es) → P (get_or es i d).arrival
all_arrivals P [] i d within all = absurd (omega arith)
all_arrivals P (e ∷ es) zero d within all = all.0
all_arrivals P (e ∷ es) (suc i) d within all = all_arrivals P es i d (omega arith) all.1

pub rises : (es : List Entry) (i j : ℕ) (d : Entry) → AreRising (arrivals es) → i < j → j < length es → (get_or es i d).arrival < (get_or es j d).arrival
rises [] i j d rising lt within = absurd (omega arith)
rises (e ∷ es) i zero d rising lt within = absurd (omega arith)
rises (e ∷ es) zero (suc j) d rising lt within = all_arrivals (λ n. e.arrival < n) es j d (omega arith) rising.0
rises (e ∷ es) (suc i) (suc j) d rising lt within = rises es i j d rising.1 (omega arith) (omega arith)

pub never_falls : (es : List Entry) → AreRising (arrivals es) → IsNonDecreasingBy (λ (e : Entry). e.arrival) es
never_falls es rising i j d le within = elim (cases_eq i j) [
  | inl same ↦ omega (arith, ap (λ k. (get_or es k d).arrival) same)
  | inr other ↦ omega (arith, rises es i j d rising (omega (arith, le, other)) within)
]

same_place : (es : List Entry) (i j : ℕ) (d : Entry) → AreRising (arrivals es) → i < length es → j < length es
    → (get_or es i d).arrival ≡ (get_or es j d).arrival → i ≡ j
same_place es i j d rising here there same = elim (cases_order i j) [
  | inl e ↦ e
  | inr (inl lt) ↦ absurd (omega (arith, rises es i j d rising lt there, same))
  | inr (inr gt) ↦ absurd (omega (arith, rises es j i d rising gt here, same))
]

-- what is read past the end doesn't matter before it
pub any_default : (es : List Entry) (i : ℕ) (d d' : Entry) → i < length es → get_or es i d ≡ get_or es i d'
any_default [] i d d' within = absurd (omega arith)
any_default (e ∷ es) zero d d' within = refl
any_default (e ∷ es) (suc i) d d' within = any_default es i d d' (omega arith)

-- one that has that priority keeps it
pub prioritized_itself : (es : List Entry) (i p : ℕ) (e : Entry) → i < length es → e ≡ get_or es i e → e.prio ≡ p
    → es ≡ set es i (record e { prio = p; filed = (get_or es i e).filed })
prioritized_itself es i p e within here same =
    sym (ap (λ q. set es i (record e { prio = q; filed = (get_or es i e).filed })) (sym same)
    ∙ ap (λ (x : Entry). set es i (record e { filed = x.filed })) (sym here)
    ∙ set_itself es i e within here)
  where
    set_itself : (xs : List Entry) (j : ℕ) (x : Entry) → j < length xs → x ≡ get_or xs j x → set xs j x ≡ xs
    set_itself [] j x within is = absurd (omega (arith, within))
    set_itself (y ∷ ys) zero x within is = ap (λ z. z ∷ ys) is
    set_itself (y ∷ ys) (suc j) x within is = ap (λ zs. y ∷ zs) (set_itself ys j x (omega (arith, within)) is)

-- the entry that was there, read in two ways
pub prioritized_set : (es : List Entry) (i p q : ℕ) (b e : Entry) → i < length es → b ≡ get_or es i b → e ≡ get_or es i e
    → set es i (record b { prio = p; filed = q }) ≡ set es i (record e { prio = p; filed = (get_or (set es i (record b { prio = p; filed = q })) i e).filed })
prioritized_set es i p q b e within was here =
    let same : b ≡ e = was ∙ any_default es i b e within ∙ sym here in
    let filed : q
    ≡ (get_or (set es i (record b { prio = p; filed = q })) i e).filed =
    sym (ap (λ (x : Entry). x.filed) (get_or-set_same es i (record b { prio = p; filed = q }) e within)) in
    ap (λ (x : Entry). set es i (record x { prio = p; filed = q })) same ∙ ap (λ n. set es i (record e { prio = p; filed = n })) filed

-- ---- what is filed

module _ (f : Entry → Key) (es : List Entry) (ks : List Key) (filed : IsFiled f es ks) where
  -- the key of each is among the keys
  pub has_key : (i : ℕ) → i < length es → 1 ≤ count_by (is_key (f (get_or es i no_entry))) ks
  has_key i within = omega (
    arith,
    filed.each (f (get_or es i no_entry)),
    count_at (λ e. is_key (f (get_or es i no_entry)) (f e)) es i no_entry within (key_itself (f (get_or es i no_entry))),
  )

  pub none_filed : (n : ℕ) → find (is_of n) ks ≡ None → count_by (λ e. is_of n (f e)) es ≡ 0
  none_filed n missing = elim (cases_lt 0 (count_by (λ e. is_of n (f e)) es)) [
    | inr none ↦ omega (arith, none)
    | inl some ↦
        let at = some_at (λ e. is_of n (f e)) es no_entry (omega (arith, some)) in
        let k = f (get_or es at.0 no_entry) in
        let stands = some_at (is_key k) ks k (has_key at.0 at.1) in
        let passes : is_of n (get_or ks stands.0 k) ≡ true = rw (same_key k (get_or ks stands.0 k) stands.2) at.2 in
        absurd (omega (arith, count_not_found (is_of n) ks missing, count_at (is_of n) ks stands.0 k stands.1 passes))
  ]

  module _ (n : ℕ) (k : Key) (found : find (is_of n) ks ≡ Some k) where
    stands : (i : ℕ) × (i < length es) × (is_key k (f (get_or es i no_entry)) ≡ true)
    stands = some_at (λ e. is_key k (f e)) es no_entry (omega (arith, filed.each k, count_found_by (is_of n) (is_key k) ks k found (key_itself k)))

    pub is_of_n : k.what ≡ n
    is_of_n = eqb-true k.what n (find_passes (is_of n) ks k found)

    -- no key of n stands before the first
    pub not_before : (i : ℕ) → i < length es → (f (get_or es i no_entry)).what ≡ n → is_before (f (get_or es i no_entry)) k ≡ false
    not_before i within same =
        let l = f (get_or es i no_entry) in
        let at = some_at (is_key l) ks l (has_key i within) in
        let is_l = same_key l (get_or ks at.0 l) at.2 in
        let here = All-at (λ l. is_of n l ≡ true → is_before l k ≡ false) ks at.0 l at.1 (first_least n ks k filed.sorted found) in
        (rw is_l at here) (eq-eqb l.what n same)

    module _ (keeps : (e : Entry) → (f e).arrival ≡ e.arrival) (rising : AreRising (arrivals es)) where
      came : (get_or es stands.0 no_entry).arrival ≡ k.arrival
      came = sym (keeps (get_or es stands.0 no_entry)) ∙ ap (λ (l : Key). l.arrival) (same_key k (f (get_or es stands.0 no_entry)) stands.2)

      -- the search by the key's arrival finds whose key it is
      pub reached : (at : ℕ) → IsAt k.arrival es at → (d : Entry) → f (get_or es at d) ≡ k
      reached at here d =
          let same : at ≡ stands.0 = same_place es at stands.0 no_entry rising here.within stands.1 (here.here no_entry ∙ sym came) in
          ap f (any_default es at d no_entry here.within) ∙ ap (λ i. f (get_or es i no_entry)) same ∙ same_key k (f (get_or es stands.0 no_entry)) stands.2

      pub not_missed : count_by (has_arrival k.arrival) es ≡ 0 → ⊥
      not_missed none =
          omega (arith, none, count_at (has_arrival k.arrival) es stands.0 no_entry stands.1 (eq-eqb (get_or es stands.0 no_entry).arrival k.arrival came))

-- ---- the best

-- of those that wait for n with priority p
abbrev pub is_at : ℕ → ℕ → Waiting → Bool
is_at n p w = is_for n w && eqb w.prio p

-- how many wait for n with priority p
abbrev count_of : ℕ → ℕ → List Waiting → ℕ
count_of n p ws = count_by (is_at n p) ws

module _ (n p : ℕ) where
  -- one of the greatest priority stays the best
  stays : (ws : List Waiting) (x : Waiting) → x.prio ≡ p → ((q : ℕ) → p < q → count_of n q ws ≡ 0)
      → fold (better_by (λ (w : Waiting). w.prio)) (Some x) (filter (is_for n) ws) ≡ Some x
  stays [] x same above = refl
  stays (w ∷ ws) x same above = by_test (stays ws x same (λ q lt. omega (arith, above q lt, count-cons (is_at n q) w ws))) (is_for n w) refl
    where
      by_test : fold (better_by (λ (w : Waiting). w.prio)) (Some x) (filter (is_for n) ws) ≡ Some x → (b : Bool) → is_for n w ≡ b
          → fold (better_by (λ (w : Waiting). w.prio)) (Some x) (cond b (w ∷ filter (is_for n) ws) (filter (is_for n) ws)) ≡ Some x
      by_test rest false e = rest
      by_test rest true e =
          let low : w.prio ≤ x.prio = elim (cases_lt p w.prio) [
            | inl lt
                ↦ absurd
                (omega (arith, above w.prio lt, count-cons (is_at n w.prio) w ws, ap (λ b. one (b && eqb w.prio w.prio)) e, ap one (eq-eqb w.prio w.prio refl)))
            | inr le ↦ omega (arith, le, same)
          ] in
          ap (λ c. fold (better_by (λ (w : Waiting). w.prio)) (cond c (Some x) (Some w)) (filter (is_for n) ws)) (le-leb w.prio x.prio low) ∙ rest

  -- nobody so far is of that priority
  abbrev Lower : Option Waiting → Type 0
  Lower best = MatchOption best (Unit {0}) (λ x. x.prio < p)

  best_to_come : (ws : List Waiting) (best : Option Waiting) → Lower best → ((q : ℕ) → p < q → count_of n q ws ≡ 0) → 1 ≤ count_of n p ws
      → fold (better_by (λ (w : Waiting). w.prio)) best (filter (is_for n) ws) ≡ find (is_at n p) ws
  best_to_come [] best lower above some = absurd (omega (arith, some))
  best_to_come (w ∷ ws) best lower above some = by_tests (is_for n w) refl (eqb w.prio p) refl
      (λ next low more. best_to_come ws next low (λ q lt. omega (arith, above q lt, count-cons (is_at n q) w ws)) more)
    where
      later : (q : ℕ) → p < q → count_of n q ws ≡ 0
      later q lt = omega (arith, above q lt, count-cons (is_at n q) w ws)

      wins : (o : Option Waiting) → Lower o → w.prio ≡ p → better_by (λ (w : Waiting). w.prio) o w ≡ Some w
      wins None low same = refl
      wins (Some x) low same = rw (lt-leb w.prio x.prio (omega (arith, low, same))) refl

      lower_still : (o : Option Waiting) → Lower o → w.prio < p → Lower (better_by (λ (w : Waiting). w.prio) o w)
      lower_still None low less = less
      lower_still (Some x) low less = by_leb (leb w.prio x.prio)
        where
          by_leb : (b : Bool) → Lower (cond b (Some x) (Some w))
          by_leb true = low
          by_leb false = less

      by_tests : (b : Bool) → is_for n w ≡ b → (c : Bool) → eqb w.prio p ≡ c
          → ((next : Option Waiting) → Lower next → 1 ≤ count_of n p ws
          → fold (better_by (λ (w : Waiting). w.prio)) next (filter (is_for n) ws) ≡ find (is_at n p) ws)
          → fold (better_by (λ (w : Waiting). w.prio)) best (cond b (w ∷ filter (is_for n) ws) (filter (is_for n) ws))
          ≡ cond (b && c) (Some w) (find (is_at n p) ws)
      by_tests false e c f rest = rest best lower (omega (arith, some, count-cons (is_at n p) w ws, ap (λ b. one (b && eqb w.prio p)) e))
      by_tests true e true f rest =
          let same = eqb-true w.prio p f in
          ap (λ o. fold (better_by (λ (w : Waiting). w.prio)) o (filter (is_for n) ws)) (wins best lower same) ∙ stays ws w same later
      by_tests true e false f rest =
          let less : w.prio < p = elim (cases_lt p w.prio) [
            | inl lt
                ↦ absurd
                (omega (arith, above w.prio lt, count-cons (is_at n w.prio) w ws, ap (λ b. one (b && eqb w.prio w.prio)) e, ap one (eq-eqb w.prio w.prio refl)))
            | inr le ↦ omega (arith, le, eqb-false w.prio p f)
          ] in
          rest (better_by (λ (w : Waiting). w.prio) best w) (lower_still best lower less)
          (omega (arith, some, count-cons (is_at n p) w ws, ap (λ b. one (is_for n w && b)) f, ap (λ b. one (b && false)) e))

-- the waits of entries

pub count_waits : (p : Waiting → Bool) (es : List Entry) → count_by p (map waiting_of es) ≡ count_by (λ e. p (waiting_of e)) es
count_waits p [] = refl
count_waits p (e ∷ es) = omega (arith, count-cons p (waiting_of e) (map waiting_of es), count-cons (λ e. p (waiting_of e)) e es, count_waits p es)

pub find_wait : (p : Waiting → Bool) (es : List Entry) → find p (map waiting_of es) ≡ option_map waiting_of (find (λ e. p (waiting_of e)) es)
find_wait p [] = refl
find_wait p (e ∷ es) = by_test (find_wait p es) (p (waiting_of e))
  where
    by_test : find p (map waiting_of es) ≡ option_map waiting_of (find (λ e. p (waiting_of e)) es) → (b : Bool)
        → cond b (Some (waiting_of e)) (find p (map waiting_of es)) ≡ option_map waiting_of (cond b (Some e) (find (λ e. p (waiting_of e)) es))
    by_test rest true = refl
    by_test rest false = rest

module _ (es : List Entry) (ks : List Key) (filed : IsFiled rank_of es ks) (rising : AreRising (arrivals es)) (n : ℕ) (k : Key)
    (found : find (is_of n) ks ≡ Some k) (at : ℕ) (here : IsAt k.arrival es at) where
  abbrev its : Entry
  its = get_or es at no_entry

  is_k : rank_of its ≡ k
  is_k = reached rank_of es ks filed n k found (λ e. refl) rising at here no_entry

  its_what : its.what ≡ n
  its_what = ap (λ (l : Key). l.what) is_k ∙ is_of_n rank_of es ks filed n k found

  its_prio : its.prio ≡ k.prio
  its_prio = ap (λ (l : Key). l.prio) is_k

  none_above : (q : ℕ) → k.prio < q → count_of n q (map waiting_of es) ≡ 0
  none_above q lt = elim (cases_lt 0 (count_of n q (map waiting_of es))) [
    | inr none ↦ omega (arith, none)
    | inl some ↦
        let one_there = some_at (λ e. is_at n q (waiting_of e)) es no_entry (omega (arith, some, count_waits (is_at n q) es)) in
        let e = get_or es one_there.0 no_entry in
        let parts = and_parts (eqb e.what n) (eqb e.prio q) one_there.2 in
        let what = eqb-true e.what n parts.0 in
        absurd
        (omega (
          arith,
          lt,
          eqb-true e.prio q parts.1,
          prio_no_more k (rank_of e) (not_before rank_of es ks filed n k found one_there.0 one_there.1 what)
              (what ∙ sym (is_of_n rank_of es ks filed n k found)),
        ))
  ]

  passes : is_at n k.prio (waiting_of its) ≡ true
  passes = rw (eq-eqb its.what n its_what, eq-eqb its.prio k.prio its_prio) refl

  earlier : (j : ℕ) → j < at → is_at n k.prio (waiting_of (get_or es j no_entry)) ≡ false
  earlier j lt = by_answer (is_at n k.prio (waiting_of (get_or es j no_entry))) refl
    where
      e : Entry
      e = get_or es j no_entry

      by_answer : (b : Bool) → is_at n k.prio (waiting_of (get_or es j no_entry)) ≡ b → b ≡ false
      by_answer false is = refl
      by_answer true is =
          let parts = and_parts (eqb (get_or es j no_entry).what n) (eqb (get_or es j no_entry).prio k.prio) is in
          let what = eqb-true (get_or es j no_entry).what n parts.0 in
          let prio = eqb-true (get_or es j no_entry).prio k.prio parts.1 in
          let within : j < length es = omega (arith, lt, here.within) in
          let late = came_later k (rank_of (get_or es j no_entry)) (not_before rank_of es ks filed n k found j within what)
          (what ∙ sym (is_of_n rank_of es ks filed n k found)) prio in
          absurd (omega (arith, late, rises es j at no_entry rising lt here.within, here.here no_entry))

  pub best_at : IsBestAt n es at
  best_at = record {
    within = here.within;
    best = λ d.
        best_to_come n k.prio (map waiting_of es) None tt none_above
        (omega (arith, count_waits (is_at n k.prio) es, count_at (λ e. is_at n k.prio (waiting_of e)) es at no_entry here.within passes))
        ∙ find_wait (is_at n k.prio) es
        ∙ ap (option_map waiting_of) (found_at (λ e. is_at n k.prio (waiting_of e)) es at no_entry here.within passes earlier)
        ∙ ap (λ e. Some (waiting_of e)) (any_default es at no_entry d here.within);
  }

-- ---- the first

module _ (es : List Entry) (ks : List Key) (filed : IsFiled arrival_key es ks) (rising : AreRising (arrivals es)) (n : ℕ) (k : Key)
    (found : find (is_of n) ks ≡ Some k) (at : ℕ) (here : IsAt k.arrival es at) where
  came_first : arrival_key (get_or es at no_entry) ≡ k
  came_first = reached arrival_key es ks filed n k found (λ e. refl) rising at here no_entry

  first_what : is_for n (waiting_of (get_or es at no_entry)) ≡ true
  first_what = eq-eqb (get_or es at no_entry).what n (ap (λ (l : Key). l.what) came_first ∙ is_of_n arrival_key es ks filed n k found)

  none_earlier : (j : ℕ) → j < at → is_for n (waiting_of (get_or es j no_entry)) ≡ false
  none_earlier j lt = by_answer (is_for n (waiting_of (get_or es j no_entry))) refl
    where
      by_answer : (b : Bool) → is_for n (waiting_of (get_or es j no_entry)) ≡ b → b ≡ false
      by_answer false is = refl
      by_answer true is =
          let what = eqb-true (get_or es j no_entry).what n is in
          let within : j < length es = omega (arith, lt, here.within) in
          let late = came_later k (arrival_key (get_or es j no_entry)) (not_before arrival_key es ks filed n k found j within what)
          (what ∙ sym (is_of_n arrival_key es ks filed n k found)) (ap (λ (l : Key). l.prio) came_first) in
          absurd (omega (arith, late, rises es j at no_entry rising lt here.within, here.here no_entry))

  pub first_at : IsFirstAt n es at
  first_at = record {
    within = here.within;
    first = λ d.
        find_wait (is_for n) es
        ∙ ap (option_map waiting_of) (found_at (λ e. is_for n (waiting_of e)) es at no_entry here.within first_what none_earlier)
        ∙ ap (λ e. Some (waiting_of e)) (any_default es at no_entry d here.within);
  }

-- ---- threads

module _ (es : List Entry) (t n : ℕ) (some : 1 ≤ count_by (is_arrival_of t n) es) where
  thread_stands : (i : ℕ) × (i < length es) × (is_arrival_of t n (get_or es i no_entry) ≡ true)
  thread_stands = some_at (is_arrival_of t n) es no_entry some

  its_parts : (is_entry_of t (get_or es thread_stands.0 no_entry) ≡ true) × (has_arrival n (get_or es thread_stands.0 no_entry) ≡ true)
  its_parts = and_parts (is_entry_of t (get_or es thread_stands.0 no_entry)) (has_arrival n (get_or es thread_stands.0 no_entry)) thread_stands.2

  pub thread_at : AreRising (arrivals es) → (at : ℕ) → IsAt n es at → IsThreadAt t es at
  thread_at rising at here =
      let came = eqb-true (get_or es thread_stands.0 no_entry).arrival n its_parts.1 in
      let same : at ≡ thread_stands.0 = same_place es at thread_stands.0 no_entry rising here.within thread_stands.1 (here.here no_entry ∙ sym came) in
      record {
        within = here.within;
        here = λ d. ap (λ (e : Entry). e.tid) (any_default es at d no_entry here.within) ∙ ap (λ i. (get_or es i no_entry).tid) same
            ∙ eqb-true (get_or es thread_stands.0 no_entry).tid t its_parts.0;
      }

  pub thread_not_missed : count_by (has_arrival n) es ≡ 0 → ⊥
  thread_not_missed none = omega (arith, none, count_at (has_arrival n) es thread_stands.0 no_entry thread_stands.1 its_parts.1)
