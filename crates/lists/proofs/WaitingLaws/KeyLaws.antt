-- The order of keys, and where a search in it comes to.
use Rattle.lwp_types.specs.CountLaws.{count-cons, find_none, one}
use Rattle.std.proofs.Common.{Bool, List, None, Some, [], ap, arith, cond, count_by, eqb, false, get_or, inl, inr, leb, length, ltb, refl, set, suc}
use Rattle.std.proofs.Common.{sym, true, zero, ℕ, ◌&&◌, ◌+◌, ◌-◌, ◌<◌, ◌∙◌, ◌∷◌, ◌≡◌, ◌≤◌}
use Rattle.std.proofs.lemmas.Bool.{and_parts, cases_eq, cases_lt, eq-eqb, eqb-true, le-ltb, leb-false, leb-true, lt-ltb, ltb-false, ltb-true, ne_eqb}
use Rattle.std.proofs.lemmas.List.{get_or-set_same}
use Rattle.std.proofs.lemmas.List.Edits.{length-remove}
use Rattle.std.proofs.lemmas.List.Sums.{sum_by-remove, sum_by-set}
use Rattle.std.specs.List.{AllByRecursion, find, insert, remove}
use Rattle.std.specs.List.Sorted.{IsNonDecreasingBy, IsPartitionPoint, IsPartitionedBy}
use Rattle.lists.proofs.WaitingLaws.SearchLaws.{none_pass}
use Rattle.lists.specs.WaitingList.Keys.{GoesBack, GoesForward, IsAhead, IsBehind, IsEnd, IsPlace, IsSorted, IsStart, StandsAt, by_numbers}
use Rattle.lists.specs.WaitingList.Keys.{is_before, is_key, is_of}
use Rattle.lists.specs.declared.waiting_list.keys.Key.{Key}

-- ---- the order

no_more : (m n : ℕ) (r : Bool) → by_numbers m n r ≡ false → n ≤ m
no_more m n r e = elim (cases_eq m n) [
  | inl same ↦ omega (arith, same)
  | inr other ↦ ltb-false m n (rw (ne_eqb m n other) at e)
]

mixed : (a b c : ℕ) (p q r : Bool) → by_numbers b a p ≡ false → by_numbers b c q ≡ true → (p ≡ false → q ≡ true → r ≡ true) → by_numbers a c r ≡ true
mixed a b c p q r first second rest = elim (cases_eq b a) [
  | inl ba ↦ elim (cases_eq b c) [
    | inl bc ↦ rw (eq-eqb a c (sym ba ∙ bc)) (rest (rw (eq-eqb b a ba) at first) (rw (eq-eqb b c bc) at second))
    | inr bc ↦ let less : b < c = ltb-true b c (rw (ne_eqb b c bc) at second) in rw (ne_eqb a c (λ e. bc (ba ∙ e))) (lt-ltb a c (omega (arith, less, ba)))
  ]
  | inr ba ↦ let less : a < b = omega (arith, ltb-false b a (rw (ne_eqb b a ba) at first), ba) in elim (cases_eq b c) [
    | inl bc ↦ rw (ne_eqb a c (λ e. absurd (omega (arith, e, bc, less)))) (lt-ltb a c (omega (arith, less, bc)))
    | inr bc
        ↦ let later : b < c = ltb-true b c (rw (ne_eqb b c bc) at second) in
        rw (ne_eqb a c (λ e. absurd (omega (arith, e, later, less)))) (lt-ltb a c (omega (arith, less, later)))
  ]
]

-- such an order where greater numbers come first
mixed_back : (a b c : ℕ) (p q r : Bool) → by_numbers a b p ≡ false → by_numbers c b q ≡ true → (p ≡ false → q ≡ true → r ≡ true) → by_numbers c a r ≡ true
mixed_back a b c p q r first second rest = elim (cases_eq a b) [
  | inl ab ↦ elim (cases_eq c b) [
    | inl cb ↦ rw (eq-eqb c a (cb ∙ sym ab)) (rest (rw (eq-eqb a b ab) at first) (rw (eq-eqb c b cb) at second))
    | inr cb ↦ let less : c < b = ltb-true c b (rw (ne_eqb c b cb) at second) in rw (ne_eqb c a (λ e. cb (e ∙ ab))) (lt-ltb c a (omega (arith, less, ab)))
  ]
  | inr ab ↦ let less : b < a = omega (arith, ltb-false a b (rw (ne_eqb a b ab) at first), ab) in elim (cases_eq c b) [
    | inl cb ↦ rw (ne_eqb c a (λ e. absurd (omega (arith, e, cb, less)))) (lt-ltb c a (omega (arith, less, cb)))
    | inr cb
        ↦ let later : c < b = ltb-true c b (rw (ne_eqb c b cb) at second) in
        rw (ne_eqb c a (λ e. absurd (omega (arith, e, later, less)))) (lt-ltb c a (omega (arith, less, later)))
  ]
]

both_same : (a b : ℕ) (p q : Bool) → by_numbers a b p ≡ false → by_numbers b a q ≡ false → (a ≡ b) × ((p ≡ false) × (q ≡ false))
both_same a b p q first second = elim (cases_eq a b) [
  | inl e ↦ (e, (rw (eq-eqb a b e) at first, rw (eq-eqb b a (sym e)) at second))
  | inr other ↦ absurd (omega (arith, ltb-false a b (rw (ne_eqb a b other) at first), ltb-false b a (rw (ne_eqb b a (λ e. other (sym e))) at second), other))
]

one_way : (a b : ℕ) (p q : Bool) → by_numbers a b p ≡ true → (p ≡ true → q ≡ false) → by_numbers b a q ≡ false
one_way a b p q first rest = elim (cases_eq a b) [
  | inl e ↦ rw (eq-eqb b a (sym e)) (rest (rw (eq-eqb a b e) at first))
  | inr other ↦ rw (ne_eqb b a (λ e. other (sym e))) (le-ltb b a (omega (arith, ltb-true a b (rw (ne_eqb a b other) at first))))
]

pub before_mixed : (k l m : Key) → is_before l k ≡ false → is_before l m ≡ true → is_before k m ≡ true
before_mixed k l m first second =
    mixed k.what l.what m.what _ _ _ first second (λ f s.
    mixed_back k.prio l.prio m.prio _ _ _ f s
    (λ g t. lt-ltb k.arrival m.arrival (omega (arith, ltb-false l.arrival k.arrival g, ltb-true l.arrival m.arrival t))))

pub before_same : (k l : Key) → is_before k l ≡ false → is_before l k ≡ false → (k.what ≡ l.what) × ((k.prio ≡ l.prio) × (k.arrival ≡ l.arrival))
before_same k l first second =
    let whats = both_same k.what l.what _ _ first second in
    let prios = both_same l.prio k.prio _ _ whats.1.0 whats.1.1 in
    (whats.0, (sym prios.0, omega (arith, ltb-false k.arrival l.arrival prios.1.0, ltb-false l.arrival k.arrival prios.1.1)))

pub before_one_way : (k l : Key) → is_before k l ≡ true → is_before l k ≡ false
before_one_way k l first =
    one_way k.what l.what _ _ first (λ f.
    one_way l.prio k.prio _ _ f (λ g. le-ltb l.arrival k.arrival (omega (arith, ltb-true k.arrival l.arrival g))))

-- what doesn't stand before l doesn't stand before what l doesn't stand before
never_between : (k l m : Key) → is_before k l ≡ false → is_before l m ≡ false → is_before k m ≡ false
never_between k l m first second = by_answer (is_before k m) refl
  where
    by_answer : (b : Bool) → is_before k m ≡ b → b ≡ false
    by_answer false e = refl
    by_answer true e = absurd (cc (second, before_mixed l k m first e))

not_before_itself : (k : Key) → is_before k k ≡ false
not_before_itself k = rw (eq-eqb k.what k.what refl, eq-eqb k.prio k.prio refl) (le-ltb k.arrival k.arrival (omega arith))

pub prio_no_more : (k l : Key) → is_before l k ≡ false → l.what ≡ k.what → l.prio ≤ k.prio
prio_no_more k l e same = no_more k.prio l.prio _ (rw (eq-eqb l.what k.what same) at e)

pub came_later : (k l : Key) → is_before l k ≡ false → l.what ≡ k.what → l.prio ≡ k.prio → k.arrival ≤ l.arrival
came_later k l e same prio = ltb-false l.arrival k.arrival (rw (eq-eqb l.what k.what same, eq-eqb k.prio l.prio (sym prio)) at e)

pub before_is_of : (k l : Key) → is_before l k ≡ false → k.what ≤ l.what
before_is_of k l e = no_more l.what k.what _ e

-- ---- sorted keys

pub All-at : (P : Key → Type 0) (ks : List Key) (i : ℕ) (d : Key) → i < length ks → AllByRecursion P ks → P (get_or ks i d)
All-at P [] i d within all = absurd (omega arith)
All-at P (k ∷ ks) zero d within all = all.0
All-at P (k ∷ ks) (suc i) d within all = All-at P ks i d (omega arith) all.1

All-from : (P : Key → Type 0) (ks : List Key) → ((i : ℕ) (d : Key) → i < length ks → P (get_or ks i d)) → AllByRecursion P ks
All-from P [] each = tt
All-from P (k ∷ ks) each = (each 0 k (omega arith), All-from P ks (λ i d lt. each (suc i) d (omega (arith, lt))))

pub ordered : (ks : List Key) (i j : ℕ) (d : Key) → IsSorted ks → i ≤ j → j < length ks → is_before (get_or ks j d) (get_or ks i d) ≡ false
ordered [] i j d sorted le within = absurd (omega arith)
ordered (k ∷ ks) zero zero d sorted le within = not_before_itself k
ordered (k ∷ ks) zero (suc j) d sorted le within = All-at (λ l. is_before l k ≡ false) ks j d (omega arith) sorted.0
ordered (k ∷ ks) (suc i) zero d sorted le within = absurd (omega arith)
ordered (k ∷ ks) (suc i) (suc j) d sorted le within = ordered ks i j d sorted.1 (omega arith) (omega arith)

pub parted_by_key : (k : Key) (ks : List Key) → IsSorted ks → IsPartitionedBy (λ l. is_before l k) ks
parted_by_key k ks sorted i j d le within passes = before_mixed (get_or ks i d) (get_or ks j d) k (ordered ks i j d sorted le within) passes

pub parted_by_what : (ks : List Key) → IsSorted ks → IsNonDecreasingBy (λ (k : Key). k.what) ks
parted_by_what ks sorted i j d le within = before_is_of (get_or ks i d) (get_or ks j d) (ordered ks i j d sorted le within)

pub place_from : (k : Key) (ks : List Key) (i : ℕ) → i ≤ length ks
    → IsPartitionPoint (λ l. is_before l k ≡ true) (λ l. is_before l k ≡ false) ks i → IsPlace k ks i
place_from k ks i within point = record { within = within; before = λ j d lt. point.0 j d (omega arith) lt; after = λ j d ge lt. point.1 j d ge lt }

-- what is read past the end doesn't matter before it
pub other_default : (ks : List Key) (i : ℕ) (d d' : Key) → i < length ks → get_or ks i d ≡ get_or ks i d'
other_default [] i d d' within = absurd (omega (arith, within))
other_default (k ∷ ks) zero d d' within = refl
other_default (k ∷ ks) (suc i) d d' within = other_default ks i d d' (omega (arith, within))

-- after the last of the keys, where that one stands before k
pub place_last : (k : Key) (ks : List Key) (i : ℕ) (l : Key) → IsSorted ks → i + 1 ≡ length ks → l ≡ get_or ks i l → is_before l k ≡ true
    → IsPlace k ks (length ks)
place_last k ks i l sorted end here less = record {
  within = omega arith;
  before = λ j d lt.
      let within : i < length ks = omega (arith, end) in
      let last : get_or ks i d ≡ l = other_default ks i d l within ∙ sym here in
      before_mixed (get_or ks j d) (get_or ks i d) k (ordered ks j i d sorted (omega (arith, lt, end)) within) (ap (λ m. is_before m k) last ∙ less);
  after = λ j d ge lt. absurd (omega (arith, ge, lt));
}

-- before the first of the keys, where that one doesn't stand before k
pub place_first : (k : Key) (ks : List Key) (l : Key) → IsSorted ks → l ≡ get_or ks 0 l → is_before l k ≡ false → IsPlace k ks 0
place_first k ks l sorted here more = record {
  within = omega arith;
  before = λ j d lt. absurd (omega (arith, lt));
  after = λ j d ge lt. by_answer j d lt (is_before (get_or ks j d) k) refl;
}
  where
    by_answer : (j : ℕ) (d : Key) → j < length ks → (b : Bool) → is_before (get_or ks j d) k ≡ b → b ≡ false
    by_answer j d lt false e = refl
    by_answer j d lt true e =
        let first : get_or ks 0 d ≡ l = other_default ks 0 d l (omega (arith, lt)) ∙ sym here in
        let less : is_before (get_or ks 0 d) k ≡ true = before_mixed (get_or ks 0 d) (get_or ks j d) k (ordered ks 0 j d sorted (omega arith) lt) e in
        absurd (cc (less, ap (λ m. is_before m k) first, more))

-- ---- one more

All-insert : (P : Key → Type 0) (ks : List Key) (at : ℕ) (k : Key) → at ≤ length ks → AllByRecursion P ks → P k → AllByRecursion P (insert ks at k)
All-insert P ks zero k within all here = (here, all)
All-insert P [] (suc at) k within all here = absurd (omega arith)
All-insert P (l ∷ ks) (suc at) k within all here = (all.0, All-insert P ks at k (omega arith) all.1 here)

-- a key may stand where it stands before none of those before it, and none of those after it stands before it
IsSorted-between : (ks : List Key) (at : ℕ) (k : Key) → IsSorted ks → at ≤ length ks
    → ((j : ℕ) (d : Key) → j < at → is_before k (get_or ks j d) ≡ false)
    → ((j : ℕ) (d : Key) → at ≤ j → j < length ks → is_before (get_or ks j d) k ≡ false)
    → IsSorted (insert ks at k)
IsSorted-between ks zero k sorted within before after = (All-from (λ l. is_before l k ≡ false) ks (λ j d lt. after j d (omega arith) lt), sorted)
IsSorted-between [] (suc at) k sorted within before after = absurd (omega (arith, within))
IsSorted-between (l ∷ ks) (suc at) k sorted within before after = (
  All-insert (λ m. is_before m l ≡ false) ks at k (omega (arith, within)) sorted.0 (before 0 l (omega arith)),
  IsSorted-between ks at k sorted.1 (omega (arith, within)) (λ j d lt. before (suc j) d (omega (arith, lt)))
      (λ j d ge lt. after (suc j) d (omega (arith, ge)) (omega (arith, lt))),
)

pub IsSorted-insert : (ks : List Key) (at : ℕ) (k : Key) → IsSorted ks → IsPlace k ks at → IsSorted (insert ks at k)
IsSorted-insert ks at k sorted place =
    IsSorted-between ks at k sorted place.within (λ j d lt. before_one_way (get_or ks j d) k (place.before j d lt)) place.after

-- ---- one less

All-remove : (P : Key → Type 0) (ks : List Key) (at : ℕ) → AllByRecursion P ks → AllByRecursion P (remove ks at)
All-remove P [] zero all = tt
All-remove P [] (suc at) all = tt
All-remove P (k ∷ ks) zero all = all.1
All-remove P (k ∷ ks) (suc at) all = (all.0, All-remove P ks at all.1)

pub IsSorted-remove : (ks : List Key) (at : ℕ) → IsSorted ks → IsSorted (remove ks at)
IsSorted-remove [] zero sorted = tt
IsSorted-remove [] (suc at) sorted = tt
IsSorted-remove (k ∷ ks) zero sorted = sorted.1
IsSorted-remove (k ∷ ks) (suc at) sorted = (All-remove (λ l. is_before l k ≡ false) ks at sorted.0, IsSorted-remove ks at sorted.1)

-- ---- one changed

insert_removed : (ks : List Key) (at : ℕ) (k : Key) → at < length ks → insert (remove ks at) at k ≡ set ks at k
insert_removed [] at k within = absurd (omega (arith, within))
insert_removed (l ∷ ks) zero k within = refl
insert_removed (l ∷ ks) (suc at) k within = ap (λ ms. l ∷ ms) (insert_removed ks at k (omega (arith, within)))

read_before : (ks : List Key) (at j : ℕ) (d : Key) → j < at → get_or (remove ks at) j d ≡ get_or ks j d
read_before [] zero j d lt = absurd (omega (arith, lt))
read_before [] (suc at) j d lt = refl
read_before (l ∷ ks) zero j d lt = absurd (omega (arith, lt))
read_before (l ∷ ks) (suc at) zero d lt = refl
read_before (l ∷ ks) (suc at) (suc j) d lt = read_before ks at j d (omega (arith, lt))

read_after : (ks : List Key) (at j : ℕ) (d : Key) → at ≤ j → get_or (remove ks at) j d ≡ get_or ks (suc j) d
read_after [] zero j d le = refl
read_after [] (suc at) j d le = refl
read_after (l ∷ ks) zero j d le = refl
read_after (l ∷ ks) (suc at) zero d le = absurd (omega (arith, le))
read_after (l ∷ ks) (suc at) (suc j) d le = read_after ks at j d (omega (arith, le))

-- a key that stands between its neighbours may stand there
pub IsSorted-set : (ks : List Key) (at : ℕ) (k : Key) → IsSorted (remove ks at) → at < length ks
    → IsBehind k ks at → IsAhead k ks at
    → IsSorted (set ks at k)
IsSorted-set ks at k sorted within behind ahead = rw (← insert_removed ks at k within) (IsSorted-between (remove ks at) at k sorted
    (omega (arith, length-remove ks at within, within))
    (λ j d lt.
    let i : ℕ = at - 1 in
    let less : is_before k (get_or (remove ks at) i d)
    ≡ false = ap (is_before k) (read_before ks at i d (omega (arith, lt))) ∙ behind i d (omega (arith, lt)) in
    never_between k (get_or (remove ks at) i d) (get_or (remove ks at) j d) less
    (ordered (remove ks at) j i d sorted (omega (arith, lt)) (omega (arith, lt, within, length-remove ks at within))))
    (λ j d ge lt.
    let more : is_before (get_or (remove ks at) at d) k
    ≡ false = ap (λ l. is_before l k) (read_after ks at at d (omega arith)) ∙ ahead d (omega (arith, ge, lt, length-remove ks at within)) in
    never_between (get_or (remove ks at) j d) (get_or (remove ks at) at d) k (ordered (remove ks at) at j d sorted ge lt) more))

-- the key in the place of another counts once, and all others as before
pub set_counts : (ks : List Key) (at : ℕ) (x k : Key) → at < length ks
    → count_by (is_key k) (set ks at x) ≡ count_by (is_key k) (remove ks at) + one (is_key k x)
set_counts ks at x k within = omega (arith, sum_by-set (λ l. one (is_key k l)) ks at x x within, sum_by-remove (λ l. one (is_key k l)) ks at x within)

-- ---- one goes past its neighbour, which takes its place

forward_kept : (ks : List Key) (i : ℕ) (x : Key) → suc i < length ks → x ≡ get_or ks i x → remove (set ks (suc i) x) i ≡ remove ks (suc i)
forward_kept [] i x within here = absurd (omega (arith, within))
forward_kept (k ∷ []) i x within here = absurd (omega (arith, within))
forward_kept (k ∷ l ∷ ks) zero x within here = ap (λ m. m ∷ ks) here
forward_kept (k ∷ l ∷ ks) (suc i) x within here = ap (λ ms. k ∷ ms) (forward_kept (l ∷ ks) i x (omega (arith, within)) here)

back_kept : (ks : List Key) (i : ℕ) (x : Key) → suc i < length ks → x ≡ get_or ks (suc i) x → remove (set ks i x) (suc i) ≡ remove ks i
back_kept [] i x within here = absurd (omega (arith, within))
back_kept (k ∷ []) i x within here = absurd (omega (arith, within))
back_kept (k ∷ l ∷ ks) zero x within here = ap (λ m. m ∷ ks) here
back_kept (k ∷ l ∷ ks) (suc i) x within here = ap (λ ms. k ∷ ms) (back_kept (l ∷ ks) i x (omega (arith, within)) here)

pub gone_forward : (ks : List Key) (at i : ℕ) (x : Key) → suc i ≡ at → at < length ks → x ≡ get_or ks i x → remove (set ks at x) i ≡ remove ks at
gone_forward ks at i x next within here = ap (λ n. remove (set ks n x) i) (sym next)
    ∙ forward_kept ks i x (omega (arith, next, within)) here ∙ ap (remove ks) next

pub gone_back : (ks : List Key) (at i : ℕ) (x : Key) → i ≡ suc at → suc at < length ks → x ≡ get_or ks i x → remove (set ks at x) i ≡ remove ks at
gone_back ks at i x next within here = ap (remove (set ks at x)) next ∙ back_kept ks at x within (here ∙ ap (λ n. get_or ks n x) next)

-- it may stand before the one that it went past
pub ahead_of_passed : (k : Key) (ks : List Key) (at i : ℕ) (x : Key) → suc i ≡ at → at < length ks → x ≡ get_or ks i x → GoesForward k ks at
    → IsAhead k (set ks at x) i
ahead_of_passed k ks at i x next within here goes d lt =
    ap (λ l. is_before l k) (ap (λ n. get_or (set ks at x) n d) next ∙ get_or-set_same ks at x d within)
    ∙ before_one_way k x (ap (is_before k) here ∙ goes.before i x next)

-- it may stand after the one that it went past
pub behind_passed : (k : Key) (ks : List Key) (at i : ℕ) (x : Key) → i ≡ suc at → x ≡ get_or ks i x → GoesBack k ks at → IsBehind k (set ks at x) i
behind_passed k ks at i x next here goes j d before =
    let same : j ≡ at = omega (arith, next, before) in
    ap (is_before k) (ap (λ n. get_or (set ks at x) n d) same ∙ get_or-set_same ks at x d (omega (arith, goes.some)))
    ∙ before_one_way x k (ap (λ l. is_before l k) (here ∙ ap (λ n. get_or ks n x) next) ∙ goes.before x)

-- what belongs after the key after a place may stand after the one before it
pub behind_both : (ks : List Key) (at : ℕ) (k : Key) → IsSorted ks → GoesBack k ks at → IsBehind k ks at
behind_both ks at k sorted goes j d next =
    before_one_way (get_or ks j d) k
    (before_mixed (get_or ks j d) (get_or ks (suc at) d) k (ordered ks j (suc at) d sorted (omega (arith, next)) goes.some) (goes.before d))

-- a key that stands before the one at a place belongs no further back
pub ahead_before : (ks : List Key) (at : ℕ) (k l : Key) → IsSorted ks → StandsAt l ks at → is_before k l ≡ true → IsAhead k ks at
ahead_before ks at k l sorted stands less d lt =
    let here : get_or ks at d ≡ l = other_default ks at d l stands.within ∙ stands.here in
    never_between (get_or ks (suc at) d) l k
    (ap (is_before (get_or ks (suc at) d)) (sym here) ∙ ordered ks at (suc at) d sorted (omega arith) lt) (before_one_way k l less)

-- what doesn't stand before it belongs no further forward
pub behind_after : (ks : List Key) (at : ℕ) (k l : Key) → IsSorted ks → StandsAt l ks at → is_before k l ≡ false → IsBehind k ks at
behind_after ks at k l sorted stands more j d next =
    let here : get_or ks at d ≡ l = other_default ks at d l stands.within ∙ stands.here in
    never_between k l (get_or ks j d) more (ap (λ m. is_before m (get_or ks j d)) (sym here) ∙ ordered ks j at d sorted (omega (arith, next)) stands.within)

module _ {X : Type 0} (p : X → Bool) where
  -- where some pass, one stands somewhere
  pub some_at : (xs : List X) (d : X) → 1 ≤ count_by p xs → (i : ℕ) × (i < length xs) × (p (get_or xs i d) ≡ true)
  some_at [] d some = absurd (omega (arith, some))
  some_at (x ∷ xs) d some = by_test (some_at xs d) (p x) refl
    where
      by_test : (1 ≤ count_by p xs → (i : ℕ) × (i < length xs) × (p (get_or xs i d) ≡ true)) → (b : Bool) → p x ≡ b
          → (i : ℕ) × (i < length (x ∷ xs)) × (p (get_or (x ∷ xs) i d) ≡ true)
      by_test rest true e = (0, omega arith, e)
      by_test rest false e =
          let later = rest (omega (arith, some, count-cons p x xs, ap one e)) in
          (suc later.0, omega (arith, later.1), later.2)

  -- where the first that passes stands
  pub found_at : (xs : List X) (i : ℕ) (d : X) → i < length xs → p (get_or xs i d) ≡ true → ((j : ℕ) → j < i → p (get_or xs j d) ≡ false)
      → find p xs ≡ Some (get_or xs i d)
  found_at [] i d within passes before = absurd (omega arith)
  found_at (x ∷ xs) zero d within passes before = rw passes refl
  found_at (x ∷ xs) (suc i) d within passes before =
      rw (before 0 (omega arith)) (found_at xs i d (omega arith) passes (λ j lt. before (suc j) (omega (arith, lt))))

key_parts : (k l : Key) → is_key k l ≡ true → (l.what ≡ k.what) × ((l.prio ≡ k.prio) × (l.arrival ≡ k.arrival))
key_parts k l e =
    let outer = and_parts (eqb l.what k.what) (eqb l.prio k.prio && eqb l.arrival k.arrival) e in
    let inner = and_parts (eqb l.prio k.prio) (eqb l.arrival k.arrival) outer.1 in
    (eqb-true l.what k.what outer.0, (eqb-true l.prio k.prio inner.0, eqb-true l.arrival k.arrival inner.1))

pub key_from : (k l : Key) → (l.what ≡ k.what) × ((l.prio ≡ k.prio) × (l.arrival ≡ k.arrival)) → l ≡ k
key_from k l parts = rw (parts.0, parts.1.0, parts.1.1) refl

pub same_key : (k l : Key) → is_key k l ≡ true → l ≡ k
same_key k l e = key_from k l (key_parts k l e)

pub key_itself : (k : Key) → is_key k k ≡ true
key_itself k = rw (eq-eqb k.what k.what refl, eq-eqb k.prio k.prio refl, eq-eqb k.arrival k.arrival refl) refl

module _ (k : Key) (ks : List Key) (at : ℕ) (sorted : IsSorted ks) (place : IsPlace k ks at) (there : 1 ≤ count_by (is_key k) ks) where
  stands : (i : ℕ) × (i < length ks) × (is_key k (get_or ks i k) ≡ true)
  stands = some_at (is_key k) ks k there

  is_there : get_or ks stands.0 k ≡ k
  is_there = same_key k (get_or ks stands.0 k) stands.2

  not_past : at ≤ stands.0
  not_past = elim (cases_lt stands.0 at) [
    | inl lt ↦ absurd (cc (place.before stands.0 k lt, ap (λ l. is_before l k) is_there, not_before_itself k))
    | inr le ↦ le
  ]

  pub within_there : at < length ks
  within_there = omega (arith, not_past, stands.1)

  -- it stands in its place
  pub key_there : get_or ks at k ≡ k
  key_there =
      let early = place.after at k (omega arith) within_there in
      let late = ordered ks at stands.0 k sorted not_past stands.1 in
      key_from k (get_or ks at k) (before_same (get_or ks at k) k early (rw is_there at late))

  pub stands_there : StandsAt k ks at
  stands_there = record { within = within_there; here = key_there }

-- ---- the first of n

pub start_from : (n : ℕ) (ks : List Key) (i : ℕ) → i ≤ length ks
    → IsPartitionPoint (λ (k : Key). ltb k.what n ≡ true) (λ k. ltb k.what n ≡ false) ks i → IsStart n ks i
start_from n ks i within point = record {
  within = within;
  before = λ j d lt. ltb-true (get_or ks j d).what n (point.0 j d (omega (arith, lt, within)) lt);
  after = λ j d ge lt. ltb-false (get_or ks j d).what n (point.1 j d ge lt);
}

pub end_from : (n : ℕ) (ks : List Key) (i : ℕ) → i ≤ length ks
    → IsPartitionPoint (λ (k : Key). leb k.what n ≡ true) (λ k. leb k.what n ≡ false) ks i → IsEnd n ks i
end_from n ks i within point = record {
  within = within;
  before = λ j d lt. leb-true (get_or ks j d).what n (point.0 j d (omega (arith, lt, within)) lt);
  after = λ j d ge lt. leb-false (get_or ks j d).what n (point.1 j d ge lt);
}

module _ (n : ℕ) (ks : List Key) (at : ℕ) (d : Key) (start : IsStart n ks at) where
  less_there : (j : ℕ) → j < at → eqb (get_or ks j d).what n ≡ false
  less_there j lt = ne_eqb (get_or ks j d).what n (λ e. absurd (omega (arith, start.before j d lt, e)))

  pub first_there : at < length ks → (get_or ks at d).what ≡ n → find (is_of n) ks ≡ Some (get_or ks at d)
  first_there within same = found_at (is_of n) ks at d within (eq-eqb (get_or ks at d).what n same) less_there

  pub no_first_there : IsSorted ks → (at < length ks → (get_or ks at d).what ≡ n → ⊥) → find (is_of n) ks ≡ None
  no_first_there sorted other = find_none (is_of n) ks (none_pass (is_of n) ks d (λ j lt. elim (cases_lt j at) [
    | inl before ↦ less_there j before
    | inr after ↦
        let within : at < length ks = omega (arith, after, lt) in
        let more : n ≤ (get_or ks at d).what = start.after at d (omega arith) within in
        let rise : (get_or ks at d).what ≤ (get_or ks j d).what = parted_by_what ks sorted at j d after lt in
        ne_eqb (get_or ks j d).what n (λ e. other within (omega (arith, more, rise, e)))
  ]))

-- none is of n where the first of all keys is of more
pub front_past : (n : ℕ) (ks : List Key) (k : Key) → 0 < length ks → k ≡ get_or ks 0 k → IsSorted ks → n < k.what → find (is_of n) ks ≡ None
front_past n ks k some here sorted more = no_first_there n ks 0 k start sorted (λ within same. omega (arith, more, same, ap (λ (l : Key). l.what) here))
  where
    start : IsStart n ks 0
    start = record {
      within = omega arith;
      before = λ j d lt. absurd (omega (arith, lt));
      after = λ j d ge lt.
          omega (arith, more, ap (λ (l : Key). l.what) here, parted_by_what ks sorted 0 j k ge lt, ap (λ (l : Key). l.what) (other_default ks j k d lt));
    }

-- of the keys of n the first that is found stands before all others
pub first_least : (n : ℕ) (ks : List Key) (k : Key) → IsSorted ks → find (is_of n) ks ≡ Some k
    → AllByRecursion (λ l. is_of n l ≡ true → is_before l k ≡ false) ks
first_least n [] k sorted found = tt
first_least n (l ∷ ks) k sorted found = by_test (first_least n ks k sorted.1) (is_of n l) refl found
  where
    by_test : (find (is_of n) ks ≡ Some k → AllByRecursion (λ l. is_of n l ≡ true → is_before l k ≡ false) ks) → (b : Bool) → is_of n l ≡ b
        → cond b (Some l) (find (is_of n) ks) ≡ Some k
        → (is_of n l ≡ true → is_before l k ≡ false) × AllByRecursion (λ l. is_of n l ≡ true → is_before l k ≡ false) ks
    by_test rest true e here =
        let same : l ≡ k = cc in
        rw (← same) ((λ is. not_before_itself l), weaker ks sorted.0)
      where
        weaker : (ms : List Key) → AllByRecursion (λ m. is_before m l ≡ false) ms → AllByRecursion (λ m. is_of n m ≡ true → is_before m l ≡ false) ms
        weaker [] all = tt
        weaker (m ∷ ms) all = ((λ is. all.0), weaker ms all.1)
    by_test rest false e later = ((λ is. absurd (cc (is, e))), rest later)

pub find_passes : {X : Type 0} (p : X → Bool) (xs : List X) (x : X) → find p xs ≡ Some x → p x ≡ true
find_passes p [] x found = absurd (cc)
find_passes p (y ∷ ys) x found = by_test (find_passes p ys x) (p y) refl found
  where
    by_test : (find p ys ≡ Some x → p x ≡ true) → (b : Bool) → p y ≡ b → cond b (Some y) (find p ys) ≡ Some x → p x ≡ true
    by_test rest true e here =
        let same : y ≡ x = cc in
        rw (← same) e
    by_test rest false e later = rest later
