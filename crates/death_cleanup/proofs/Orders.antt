-- How the waits that are noted stand.
use Rattle.death_cleanup.specs.Named.{AreOrdered, HasNoWaiter, IsBefore, IsBeforeLast, IsGap, is_before, is_wait, rank, run_number, run_of}
use Rattle.death_cleanup.specs.declared.rows.Awaited.{Awaited}
use Rattle.death_cleanup.specs.declared.rows.Awaited.TheVariants as awaited
use Rattle.death_cleanup.specs.declared.rows.NamedWait.{NamedWait}
use Rattle.std.proofs.Common.{Bool, List, [], ap, arith, cond, eqb, false, get_or, inl, inr, length, refl, suc}
use Rattle.std.proofs.Common.{sym, take, true, zero, ℕ, ◌&&◌, ◌+◌, ◌-◌, ◌<◌, ◌∙◌, ◌∷◌, ◌≡◌, ◌≤◌, ◌||◌}
use Rattle.std.proofs.lemmas.Bool.{and_from, cases_lt, eq-eqb, eqb-true, le-ltb, lt-ltb, ltb-false, ltb-true, or_right}
use Rattle.std.specs.List.{AllByRecursion, filter, insert, list_any, remove}
use Rattle.std.specs.List.Sorted.{IsPartitionedBy}
use Rattle.std.specs.Prelude.{nat_lt}

-- ---- the runs

pub rank-le : (a : Awaited) → rank a ≤ 1
rank-le awaited.Death = omega arith
rank-le awaited.Letter = omega arith

-- the waits of one run are for the same
pub same-run : (a b : Awaited) (x y : ℕ) → run_number a x ≡ run_number b y → (a ≡ b) × (x ≡ y)
same-run awaited.Death awaited.Death x y e = (refl, omega (arith, e))
same-run awaited.Death awaited.Letter x y e = absurd (omega (arith, e))
same-run awaited.Letter awaited.Death x y e = absurd (omega (arith, e))
same-run awaited.Letter awaited.Letter x y e = (refl, omega (arith, e))

-- ---- which waits stand before which

pub before-holds : (w : NamedWait) (r n : ℕ) → run_of w ≤ r → (run_of w ≡ r → w.tid < n) → is_before r n w ≡ true
before-holds w r n low younger = elim (cases_lt (run_of w) r) [
  | inl less ↦ rw (lt-ltb (run_of w) r less) refl
  | inr more ↦
      let same : run_of w ≡ r = omega (arith, low, more) in
      rw (le-ltb (run_of w) r more, eq-eqb (run_of w) r same, lt-ltb w.tid n (younger same)) refl
]

pub before-says : (w : NamedWait) (r n : ℕ) → is_before r n w ≡ true → (run_of w ≤ r) × (run_of w ≡ r → w.tid < n)
before-says w r n is = by_less (nat_lt (run_of w) r) refl is
  where
    by_same : (c : Bool) → eqb (run_of w) r ≡ c → (c && nat_lt w.tid n) ≡ true → (run_of w ≤ r) × (run_of w ≡ r → w.tid < n)
    by_same true e h = (omega (arith, eqb-true (run_of w) r e), λ same. ltb-true w.tid n h)
    by_same false e h = absurd (cc)

    by_less : (c : Bool) → nat_lt (run_of w) r ≡ c → (c || (eqb (run_of w) r && nat_lt w.tid n)) ≡ true → (run_of w ≤ r) × (run_of w ≡ r → w.tid < n)
    by_less true e h = (let less = ltb-true (run_of w) r e in omega (arith, less), λ same. absurd (omega (arith, same, ltb-true (run_of w) r e)))
    by_less false e h = by_same (eqb (run_of w) r) refl h

pub before-not : (w : NamedWait) (r n : ℕ) → is_before r n w ≡ false → (r ≤ run_of w) × (run_of w ≡ r → n ≤ w.tid)
before-not w r n is = by_less (nat_lt (run_of w) r) refl is
  where
    by_less : (c : Bool) → nat_lt (run_of w) r ≡ c → (c || (eqb (run_of w) r && nat_lt w.tid n)) ≡ false → (r ≤ run_of w) × (run_of w ≡ r → n ≤ w.tid)
    by_less true e h = absurd (cc)
    by_less false e h = (ltb-false (run_of w) r e, λ same. ltb-false w.tid n (rw (eq-eqb (run_of w) r same) at h))

pub before-fails : (w : NamedWait) (r n : ℕ) → r ≤ run_of w → (run_of w ≡ r → n ≤ w.tid) → is_before r n w ≡ false
before-fails w r n low older = rw (le-ltb (run_of w) r low) (by_same (eqb (run_of w) r) refl)
  where
    by_same : (c : Bool) → eqb (run_of w) r ≡ c → (c && nat_lt w.tid n) ≡ false
    by_same true e = le-ltb w.tid n (older (eqb-true (run_of w) r e))
    by_same false e = refl

pub before-down : (v w : NamedWait) (r n : ℕ) → IsBefore v w → is_before r n w ≡ true → is_before r n v ≡ true
before-down v w r n order later =
    let says = before-says w r n later in
    before-holds v r n (omega (arith, order.low, says.0)) (λ same.
    let is : run_of w ≡ r = omega (arith, same, order.low, says.0) in
    omega (arith, order.tid (omega (arith, same, is)), says.1 is))

-- ---- waits in order

all-at : (P : NamedWait → Type 0) (ws : List NamedWait) (i : ℕ) (d : NamedWait) → i < length ws → AllByRecursion P ws → P (get_or ws i d)
all-at P [] i d within all = absurd (omega arith)
all-at P (w ∷ ws) zero d within all = all.0
all-at P (w ∷ ws) (suc i) d within all = all-at P ws i d (omega arith) all.1

pub ordered-at : (ws : List NamedWait) (i j : ℕ) (d : NamedWait) → AreOrdered ws → i < j → j < length ws → IsBefore (get_or ws i d) (get_or ws j d)
ordered-at [] i j d ordered lt within = absurd (omega arith)
ordered-at (w ∷ ws) zero zero d ordered lt within = absurd (omega arith)
ordered-at (w ∷ ws) zero (suc j) d ordered lt within = all-at (IsBefore w) ws j d (omega arith) ordered.0
ordered-at (w ∷ ws) (suc i) zero d ordered lt within = absurd (omega arith)
ordered-at (w ∷ ws) (suc i) (suc j) d ordered lt within = ordered-at ws i j d ordered.1 (omega arith) (omega arith)

all-kept : (P : NamedWait → Type 0) (keep : NamedWait → Bool) (ws : List NamedWait) → AllByRecursion P ws → AllByRecursion P (filter keep ws)
all-kept P keep [] all = tt
all-kept P keep (w ∷ ws) all = by_test (keep w) (all-kept P keep ws all.1)
  where
    by_test : (c : Bool) → AllByRecursion P (filter keep ws) → AllByRecursion P (cond c (w ∷ filter keep ws) (filter keep ws))
    by_test true rest = (all.0, rest)
    by_test false rest = rest

pub AreOrdered-kept : (keep : NamedWait → Bool) (ws : List NamedWait) → AreOrdered ws → AreOrdered (filter keep ws)
AreOrdered-kept keep [] ordered = tt
AreOrdered-kept keep (w ∷ ws) ordered = by_test (keep w) (AreOrdered-kept keep ws ordered.1)
  where
    by_test : (c : Bool) → AreOrdered (filter keep ws) → AreOrdered (cond c (w ∷ filter keep ws) (filter keep ws))
    by_test true rest = (all-kept (IsBefore w) keep ws ordered.0, rest)
    by_test false rest = rest

all-removed : (P : NamedWait → Type 0) (ws : List NamedWait) (i : ℕ) → i < length ws → AllByRecursion P ws → AllByRecursion P (remove ws i)
all-removed P [] i within all = absurd (omega arith)
all-removed P (w ∷ ws) zero within all = all.1
all-removed P (w ∷ ws) (suc i) within all = (all.0, all-removed P ws i (omega arith) all.1)

pub AreOrdered-removed : (ws : List NamedWait) (i : ℕ) → i < length ws → AreOrdered ws → AreOrdered (remove ws i)
AreOrdered-removed [] i within ordered = absurd (omega arith)
AreOrdered-removed (w ∷ ws) zero within ordered = ordered.1
AreOrdered-removed (w ∷ ws) (suc i) within ordered = (all-removed (IsBefore w) ws i (omega arith) ordered.0, AreOrdered-removed ws i (omega arith) ordered.1)

all-inserted : (P : NamedWait → Type 0) (ws : List NamedWait) (i : ℕ) (v : NamedWait) → i ≤ length ws → AllByRecursion P ws → P v
    → AllByRecursion P (insert ws i v)
all-inserted P ws zero v within all own = (own, all)
all-inserted P [] (suc i) v within all own = absurd (omega arith)
all-inserted P (w ∷ ws) (suc i) v within all own = (all.0, all-inserted P ws i v (omega arith) all.1 own)

all-from : (P : NamedWait → Type 0) (ws : List NamedWait) → ((j : ℕ) (d : NamedWait) → j < length ws → P (get_or ws j d)) → AllByRecursion P ws
all-from P [] each = tt
all-from P (w ∷ ws) each = (each 0 w (omega arith), all-from P ws (λ j d lt. each (suc j) d (omega arith)))

-- where the wait stands, nobody else of its run and thread does
pub AreOrdered-inserted : (ws : List NamedWait) (i : ℕ) (v : NamedWait) → AreOrdered ws → IsGap (run_of v) v.tid ws i
    → ((d : NamedWait) → i < length ws → is_wait (run_of v) v.tid (get_or ws i d) ≡ false) → AreOrdered (insert ws i v)
AreOrdered-inserted ws zero v ordered gap away = (all-from (IsBefore v) ws later, ordered)
  where
    first : (d : NamedWait) → 0 < length ws → run_of v ≡ run_of (get_or ws 0 d) → v.tid < (get_or ws 0 d).tid
    first d lt same = elim (cases_lt v.tid (get_or ws 0 d).tid) [
      | inl less ↦ less
      | inr more ↦
          let not = before-not (get_or ws 0 d) (run_of v) v.tid (gap.above 0 d (omega arith) lt) in
          let least : v.tid ≤ (get_or ws 0 d).tid = not.1 (sym same) in
          let here : is_wait (run_of v) v.tid (get_or ws 0 d)
          ≡ true = and_from _ _ (eq-eqb (get_or ws 0 d).tid v.tid (omega (arith, least, more))) (eq-eqb (run_of (get_or ws 0 d)) (run_of v) (sym same)) in
          let no : false ≡ true = sym (away d lt) ∙ here in
          absurd (cc)
    ]

    younger : (j : ℕ) (d : NamedWait) → j < length ws → run_of v ≡ run_of (get_or ws j d) → v.tid < (get_or ws j d).tid
    younger zero d lt same = first d lt same
    younger (suc j) d lt same =
        let order = ordered-at ws 0 (suc j) d ordered (omega arith) lt in
        let low = (before-not (get_or ws 0 d) (run_of v) v.tid (gap.above 0 d (omega arith) (omega arith))).0 in
        let own : run_of v ≡ run_of (get_or ws 0 d) = omega (arith, low, order.low, same) in
        let less = first d (omega arith) own in
        omega (arith, less, order.tid (omega (arith, own, same)))

    later : (j : ℕ) (d : NamedWait) → j < length ws → IsBefore v (get_or ws j d)
    later j d lt = record { low = (before-not (get_or ws j d) (run_of v) v.tid (gap.above j d (omega arith) lt)).0; tid = younger j d lt }
AreOrdered-inserted [] (suc i) v ordered gap away = absurd (omega (arith, gap.within))
AreOrdered-inserted (w ∷ ws) (suc i) v ordered gap away =
    let says = before-says w (run_of v) v.tid (gap.below 0 w (omega arith)) in (
      all-inserted (IsBefore w) ws i v (omega (arith, gap.within)) ordered.0 (record { low = says.0; tid = says.1 }),
      AreOrdered-inserted ws i v ordered.1 (record {
        within = omega (arith, gap.within);
        below = λ j d lt. gap.below (suc j) d (omega arith);
        above = λ j d ge lt. gap.above (suc j) d (omega arith) (omega arith);
      }) (λ d lt. away d (omega arith)),
    )

-- ---- whether a wait stands there

pub record Stands (p : NamedWait → Bool) (ws : List NamedWait) (d : NamedWait) : Type 0 where
  pub place : ℕ
  pub within : place < length ws
  pub passes : p (get_or ws place d) ≡ true

pub any-place : (p : NamedWait → Bool) (ws : List NamedWait) (d : NamedWait) → list_any p ws ≡ true → Stands p ws d
any-place p [] d some = absurd (cc)
any-place p (w ∷ ws) d some = by_test (p w) refl some (any-place p ws d)
  where
    by_test : (c : Bool) → p w ≡ c → (c || list_any p ws) ≡ true → (list_any p ws ≡ true → Stands p ws d) → Stands p (w ∷ ws) d
    by_test true is some rest = record { place = 0; within = omega arith; passes = is }
    by_test false is some rest =
        let later = rest some in
        record { place = suc later.place; within = omega (arith, later.within); passes = later.passes }

pub any-removed : (p : NamedWait → Bool) (ws : List NamedWait) (i : ℕ) (d : NamedWait) → i < length ws → p (get_or ws i d) ≡ false
    → list_any p ws ≡ true → list_any p (remove ws i) ≡ true
any-removed p [] i d within other some = absurd (omega arith)
any-removed p (w ∷ ws) zero d within other some = (rw other at some)
any-removed p (w ∷ ws) (suc i) d within other some = by_test (p w) some (any-removed p ws i d (omega arith) other)
  where
    by_test : (c : Bool) → (c || list_any p ws) ≡ true → (list_any p ws ≡ true → list_any p (remove ws i) ≡ true) → (c || list_any p (remove ws i)) ≡ true
    by_test true some rest = refl
    by_test false some rest = rest some

pub any-inserted : (p : NamedWait → Bool) (ws : List NamedWait) (i : ℕ) (v : NamedWait) → i ≤ length ws → list_any p ws ≡ true
    → list_any p (insert ws i v) ≡ true
any-inserted p ws zero v within some = or_right (p v) _ some
any-inserted p [] (suc i) v within some = absurd (omega arith)
any-inserted p (w ∷ ws) (suc i) v within some = by_test (p w) some (any-inserted p ws i v (omega arith))
  where
    by_test : (c : Bool) → (c || list_any p ws) ≡ true → (list_any p ws ≡ true → list_any p (insert ws i v) ≡ true) → (c || list_any p (insert ws i v)) ≡ true
    by_test true some rest = refl
    by_test false some rest = rest some

pub own-inserted : (p : NamedWait → Bool) (ws : List NamedWait) (i : ℕ) (v : NamedWait) → i ≤ length ws → p v ≡ true → list_any p (insert ws i v) ≡ true
own-inserted p ws zero v within own = rw own refl
own-inserted p [] (suc i) v within own = absurd (omega arith)
own-inserted p (w ∷ ws) (suc i) v within own = or_right (p w) _ (own-inserted p ws i v (omega arith) own)

-- what `partition_point` asks
pub parted : (ws : List NamedWait) (r n : ℕ) → AreOrdered ws → IsPartitionedBy (is_before r n) ws
parted ws r n ordered i j d le within passes = elim (cases_lt i j) [
  | inl less ↦ before-down (get_or ws i d) (get_or ws j d) r n (ordered-at ws i j d ordered less within) passes
  | inr more ↦ ap (λ k. is_before r n (get_or ws k d)) (let e : i ≡ j = omega (arith, le, more) in e) ∙ passes
]

-- a wait that comes after the last comes after all
pub behind_last : (ws : List NamedWait) (r n : ℕ) (last : NamedWait) → AreOrdered ws
    → ((d : NamedWait) → last ≡ get_or ws (length ws - 1) d) → is_before r n last ≡ true → IsGap r n ws (length ws)
behind_last ws r n last ordered is passes = record {
  within = omega arith;
  below = λ j d lt. parted ws r n ordered j (length ws - 1) d (omega (arith, lt)) (omega (arith, lt)) (ap (is_before r n) (sym (is d)) ∙ passes);
  above = λ j d ge lt. absurd (omega (arith, ge, lt));
}

-- a wait that comes after the one before the last, and not after the last
pub behind_others : (ws : List NamedWait) (r n : ℕ) → AreOrdered ws → IsBeforeLast r n ws → 2 ≤ length ws
    → ((d : NamedWait) → is_before r n (get_or ws (length ws - 2) d) ≡ true) → IsGap r n ws (length ws - 1)
behind_others ws r n ordered before two passes = record {
  within = omega arith;
  below = λ j d lt. parted ws r n ordered j (length ws - 2) d (omega (arith, lt)) (omega (arith, two)) (passes d);
  above = λ j d ge lt. ap (λ k. is_before r n (get_or ws k d)) (let e : j ≡ length ws - 1 = omega (arith, ge, lt) in e) ∙ before d (omega (arith, two));
}

-- where nobody waits in a run, the next one begins at the same place
pub gap-next : (ws : List NamedWait) (r i : ℕ) → AreOrdered ws → IsGap r 0 ws i → HasNoWaiter r ws i → IsGap (r + 1) 0 ws i
gap-next ws r i ordered gap none = record {
  within = gap.within;
  below = λ j d lt.
      let says = before-says (get_or ws j d) r 0 (gap.below j d lt) in
      before-holds (get_or ws j d) (r + 1) 0 (omega (arith, says.0)) (λ same. absurd (omega (arith, same, says.0)));
  above = λ j d ge lt. before-fails (get_or ws j d) (r + 1) 0 (later j d ge lt) (λ same. omega arith);
}
  where
    first : (d : NamedWait) → i < length ws → r + 1 ≤ run_of (get_or ws i d)
    first d within =
        let low = (before-not (get_or ws i d) r 0 (gap.above i d (omega arith) within)).0 in
        elim (cases_lt r (run_of (get_or ws i d))) [
          | inl less ↦ omega (arith, less)
          | inr more ↦ absurd (none d within (omega (arith, low, more)))
        ]

    later : (j : ℕ) (d : NamedWait) → i ≤ j → j < length ws → r + 1 ≤ run_of (get_or ws j d)
    later j d ge lt = elim (cases_lt i j) [
      | inl less ↦ omega (arith, first d (omega (arith, ge, lt)), (ordered-at ws i j d ordered less lt).low)
      | inr more ↦ omega (arith, first d (omega (arith, ge, lt)), ap (λ k. run_of (get_or ws k d)) (let e : i ≡ j = omega (arith, ge, more) in e))
    ]

pub remove_last : {X : Type 0} (xs : List X) (i : ℕ) → i + 1 ≡ length xs → remove xs i ≡ take i xs
remove_last [] i e = absurd (omega (arith, e))
remove_last (x ∷ []) zero e = refl
remove_last (x ∷ []) (suc i) e = absurd (omega (arith, e))
remove_last (x ∷ y ∷ ys) zero e = absurd (omega (arith, e))
remove_last (x ∷ y ∷ ys) (suc i) e = ap (λ l. x ∷ l) (remove_last (y ∷ ys) i (omega (arith, e)))
