-- Slots: what they have once a lock is added, changed or given up, and which lock is the only one, or the last, that passes.
use Rattle.lwp_types.specs.CountLaws.{count-cons, count-reverse, find_none, one}
use Rattle.lwp_types.specs.MonitorRelease.{is_lock, locks_on, without_lock}
use Rattle.lwp_types.specs.Monitors.{lock_with_depth, with_depth}
use Rattle.lwp_types.specs.OnlyLaws.{filter_none, map_none, remove_only, set_only}
use Rattle.lwp_types.specs.State.{passes}
use Rattle.lwp_types.specs.declared.rows.Lock.{Lock}
use Rattle.monitors.specs.Slots.{IsLastIn, NoneIn, deeper, has_in, lock_in}
use Rattle.std.proofs.Common.{Bool, List, None, Option, Some, [], ap, arith, cond, count_by, false, get_or, is_some, length, option_map}
use Rattle.std.proofs.Common.{refl, reverse, set, suc, sym, take, true, zero, ℕ, ◌++◌, ◌<◌, ◌∙◌, ◌∷◌, ◌≡◌, ◌≢◌, ◌≤◌}
use Rattle.std.proofs.lemmas.List.{get_or-set_other, get_or-take, get_or_append_left, get_or_past, get_or_push, reverse-append}
use Rattle.std.specs.List.{filter, find, remove}
use Rattle.lists.specs.Living.{living}

-- the lock, where there is one
abbrev pub as_list : Option Lock → List Lock
as_list None = []
as_list (Some lock) = lock ∷ []

pub living-push : (slots : List (Option Lock)) (o : Option Lock) → living (slots ++ o ∷ []) ≡ living slots ++ as_list o
living-push [] None = refl
living-push [] (Some x) = refl
living-push (None ∷ slots) o = living-push slots o
living-push (Some x ∷ slots) o = ap (λ ys. x ∷ ys) (living-push slots o)

pub living-closed : (slots : List (Option Lock)) → living (filter is_some slots) ≡ living slots
living-closed [] = refl
living-closed (None ∷ slots) = living-closed slots
living-closed (Some x ∷ slots) = ap (λ ys. x ∷ ys) (living-closed slots)

pub length-closed : (slots : List (Option Lock)) → length (filter is_some slots) ≡ length (living slots)
length-closed [] = refl
length-closed (None ∷ slots) = length-closed slots
length-closed (Some x ∷ slots) = ap suc (length-closed slots)

-- closed up, each slot has a lock
pub all_closed : (slots : List (Option Lock)) (i : ℕ) → i < length (filter is_some slots) → is_some (get_or (filter is_some slots) i None) ≡ true
all_closed [] i within = absurd (omega (arith, within))
all_closed (None ∷ slots) i within = all_closed slots i within
all_closed (Some x ∷ slots) zero within = refl
all_closed (Some x ∷ slots) (suc i) within = all_closed slots i (omega (arith, within))

pub few_living : (slots : List (Option Lock)) → length (living slots) ≤ length slots
few_living [] = omega arith
few_living (None ∷ slots) = omega (arith, few_living slots)
few_living (Some x ∷ slots) = omega (arith, few_living slots)

-- the last slot is written
pub set_last : (slots : List (Option Lock)) (i : ℕ) (o : Option Lock) → suc i ≡ length slots → take i slots ++ o ∷ [] ≡ set slots i o
set_last [] i o last = absurd (omega (arith, last))
set_last (x ∷ []) zero o last = refl
set_last (x ∷ y ∷ slots) zero o last = absurd (omega (arith, last))
set_last (x ∷ slots) (suc i) o last = ap (λ ys. x ∷ ys) (set_last slots i o (omega (arith, last)))

living-nothing : (slots : List (Option Lock)) → living (slots ++ None ∷ []) ≡ living slots
living-nothing slots = living-push slots None ∙ append_nothing (living slots)
  where
    append_nothing : (xs : List Lock) → xs ++ [] ≡ xs
    append_nothing [] = refl
    append_nothing (x ∷ xs) = ap (λ ys. x ∷ ys) (append_nothing xs)

-- that the last one goes is as if it were empty
pub living-cut : (slots : List (Option Lock)) (i : ℕ) → suc i ≡ length slots → living (take i slots) ≡ living (set slots i None)
living-cut slots i last = sym (living-nothing (take i slots)) ∙ ap living (set_last slots i None last)

-- what has a lock is no empty slot
pub slot_within : (slots : List (Option Lock)) (i : ℕ) (lock : Lock) → get_or slots i None ≡ Some lock → i < length slots
slot_within [] i lock is = absurd (cc)
slot_within (x ∷ slots) zero lock is = omega arith
slot_within (x ∷ slots) (suc i) lock is = omega (arith, slot_within slots i lock is)

-- a slot that passes has a lock
pub record HasLock (p : Lock → Bool) (o : Option Lock) : Type 0 where
  pub lock : Lock
  pub is : o ≡ Some lock
  pub passed : p lock ≡ true

pub has_lock : (p : Lock → Bool) (o : Option Lock) → passes p o ≡ true → HasLock p o
has_lock p None none = absurd (cc)
has_lock p (Some lock) passed = record { lock = lock; is = refl; passed = passed }

pub has_within : (p : Lock → Bool) (slots : List (Option Lock)) (i : ℕ) → has_in p slots i ≡ true → i < length slots
has_within p slots i passed =
    let one = has_lock p (get_or slots i None) passed in
    slot_within slots i one.lock one.is

-- ---- one slot of all

pub has_push : (p : Lock → Bool) (slots : List (Option Lock)) (o : Option Lock) (i : ℕ) → i < length slots → has_in p (slots ++ o ∷ []) i ≡ has_in p slots i
has_push p slots o i within = ap (passes p) (get_or_append_left slots (o ∷ []) None i within)

pub has_pushed : (p : Lock → Bool) (slots : List (Option Lock)) (o : Option Lock) (i : ℕ) → i ≡ length slots → has_in p (slots ++ o ∷ []) i ≡ passes p o
has_pushed p slots o i last = ap (passes p) (get_or_push slots o None i (sym last))

pub has_past : (p : Lock → Bool) (slots : List (Option Lock)) (i : ℕ) → length slots ≤ i → has_in p slots i ≡ false
has_past p slots i past = ap (passes p) (get_or_past slots i None past)

pub has_taken : (p : Lock → Bool) (slots : List (Option Lock)) (n i : ℕ) → i < n → has_in p (take n slots) i ≡ has_in p slots i
has_taken p slots n i less = ap (passes p) (get_or-take n slots i None less)

pub has_other : (p : Lock → Bool) (slots : List (Option Lock)) (i j : ℕ) (o : Option Lock) → j ≢ i → has_in p (set slots i o) j ≡ has_in p slots j
has_other p slots i j o away = ap (passes p) (get_or-set_other slots i j o None away)

-- whether the last slot goes or is empty
pub has_cut : (p : Lock → Bool) (slots : List (Option Lock)) (i : ℕ) → suc i ≡ length slots → (j : ℕ)
    → has_in p (take i slots) j ≡ has_in p (set slots i None) j
has_cut p [] i last j = absurd (omega (arith, last))
has_cut p (x ∷ []) zero last zero = refl
has_cut p (x ∷ []) zero last (suc j) = refl
has_cut p (x ∷ y ∷ slots) zero last j = absurd (omega (arith, last))
has_cut p (x ∷ slots) (suc i) last zero = refl
has_cut p (x ∷ slots) (suc i) last (suc j) = has_cut p slots i (omega (arith, last)) j

-- an empty slot has none
pub has_emptied : (p : Lock → Bool) (slots : List (Option Lock)) (i : ℕ) → has_in p (set slots i None) i ≡ false
has_emptied p [] i = refl
has_emptied p (x ∷ slots) zero = refl
has_emptied p (x ∷ slots) (suc i) = has_emptied p slots i

-- a lock at another depth is the same otherwise
pub has_deepened : (p : Lock → Bool) → ((depth : ℕ) (lock : Lock) → p (deeper depth lock) ≡ p lock)
    → (depth : ℕ) (slots : List (Option Lock)) (i j : ℕ) → has_in p (set slots i (option_map (deeper depth) (get_or slots i None))) j ≡ has_in p slots j
has_deepened p alike depth [] i j = refl
has_deepened p alike depth (None ∷ slots) zero zero = refl
has_deepened p alike depth (Some x ∷ slots) zero zero = alike depth x
has_deepened p alike depth (x ∷ slots) zero (suc j) = refl
has_deepened p alike depth (x ∷ slots) (suc i) zero = refl
has_deepened p alike depth (x ∷ slots) (suc i) (suc j) = has_deepened p alike depth slots i j

-- ---- among all locks

-- the lock in a slot is one of all locks, and what becomes of the slot becomes of it
pub record IsRanked (slots : List (Option Lock)) (i : ℕ) (lock : Lock) : Type 0 where
  pub rank : ℕ
  pub within : rank < length (living slots)
  pub here : lock ≡ get_or (living slots) rank lock
  pub emptied : living (set slots i None) ≡ remove (living slots) rank
  pub written : (l : Lock) → living (set slots i (Some l)) ≡ set (living slots) rank l

pub ranked : (slots : List (Option Lock)) (i : ℕ) (lock : Lock) → get_or slots i None ≡ Some lock → IsRanked slots i lock
ranked [] i lock is = absurd (cc)
ranked (None ∷ slots) zero lock is = absurd (cc)
ranked (None ∷ slots) (suc i) lock is =
    let rest = ranked slots i lock is in
    record { rank = rest.rank; within = rest.within; here = rest.here; emptied = rest.emptied; written = rest.written }
ranked (Some x ∷ slots) zero lock is =
    let same : lock ≡ x = cc in
    record { rank = 0; within = omega arith; here = same; emptied = refl; written = λ l. refl }
ranked (Some x ∷ slots) (suc i) lock is =
    let rest = ranked slots i lock is in
    record {
      rank = suc rest.rank;
      within = omega (arith, rest.within);
      here = rest.here;
      emptied = ap (λ ys. x ∷ ys) rest.emptied;
      written = λ l. ap (λ ys. x ∷ ys) (rest.written l);
    }

-- the lock of the monitor goes with its slot
pub living_freed : (m : ℕ) (slots : List (Option Lock)) (i : ℕ) → locks_on (living slots) m ≤ 1 → has_in (is_lock m) slots i ≡ true
    → living (set slots i None) ≡ without_lock m (living slots)
living_freed m slots i few passed =
    let one = has_lock (is_lock m) (get_or slots i None) passed in
    let rank = ranked slots i one.lock one.is in
    rank.emptied ∙ remove_only (is_lock m) (living slots) rank.rank one.lock few rank.within (ap (is_lock m) (sym rank.here) ∙ one.passed)

pub living_deepened : (m depth : ℕ) (slots : List (Option Lock)) (i : ℕ) → locks_on (living slots) m ≤ 1 → has_in (is_lock m) slots i ≡ true
    → living (set slots i (option_map (deeper depth) (get_or slots i None))) ≡ with_depth m depth (living slots)
living_deepened m depth slots i few passed =
    let one = has_lock (is_lock m) (get_or slots i None) passed in
    let rank = ranked slots i one.lock one.is in
    let deep : deeper depth one.lock ≡ lock_with_depth m depth one.lock = ap (λ b. record one.lock { depth = cond b depth one.lock.depth }) (sym one.passed) in
    ap (λ o. living (set slots i (option_map (deeper depth) o))) one.is
    ∙ rank.written (deeper depth one.lock)
    ∙ ap (set (living slots) rank.rank) deep
    ∙ set_only (is_lock m) (lock_with_depth m depth) (λ x other. ap (λ b. record x { depth = cond b depth x.depth }) other) (living slots)
    rank.rank one.lock few rank.within rank.here one.passed

pub count_deepened : (p : Lock → Bool) → ((depth : ℕ) (lock : Lock) → p (deeper depth lock) ≡ p lock)
    → (depth : ℕ) (slots : List (Option Lock)) (i : ℕ)
    → count_by p (living (set slots i (option_map (deeper depth) (get_or slots i None)))) ≡ count_by p (living slots)
count_deepened p alike depth [] i = refl
count_deepened p alike depth (None ∷ slots) zero = refl
count_deepened p alike depth (Some x ∷ slots) zero =
    omega (arith, count-cons p (deeper depth x) (living slots), count-cons p x (living slots), ap one (alike depth x))
count_deepened p alike depth (None ∷ slots) (suc i) = count_deepened p alike depth slots i
count_deepened p alike depth (Some x ∷ slots) (suc i) = omega (
  arith,
  count-cons p x (living (set slots i (option_map (deeper depth) (get_or slots i None)))),
  count-cons p x (living slots),
  count_deepened p alike depth slots i,
)

pub length_deepened : (depth : ℕ) (slots : List (Option Lock)) (i : ℕ)
    → length (living (set slots i (option_map (deeper depth) (get_or slots i None)))) ≡ length (living slots)
length_deepened depth [] i = refl
length_deepened depth (None ∷ slots) zero = refl
length_deepened depth (Some x ∷ slots) zero = refl
length_deepened depth (None ∷ slots) (suc i) = length_deepened depth slots i
length_deepened depth (Some x ∷ slots) (suc i) = ap suc (length_deepened depth slots i)

-- where the monitor has none, there is nothing to change
pub without_none : (m : ℕ) (locks : List Lock) → locks_on locks m ≡ 0 → without_lock m locks ≡ locks
without_none m locks none = filter_none (is_lock m) locks none

pub deep_none : (m depth : ℕ) (locks : List Lock) → locks_on locks m ≡ 0 → with_depth m depth locks ≡ locks
deep_none m depth locks none = map_none (is_lock m) (lock_with_depth m depth) (λ x other. ap (λ b. record x { depth = cond b depth x.depth }) other) locks none

-- ---- the only lock that passes, and the last one

module _ (p : Lock → Bool) where
  pub counted_at : (slots : List (Option Lock)) (i : ℕ) → has_in p slots i ≡ true → 1 ≤ count_by p (living slots)
  counted_at [] i passed = absurd (cc)
  counted_at (None ∷ slots) zero passed = absurd (cc)
  counted_at (None ∷ slots) (suc i) passed = counted_at slots i passed
  counted_at (Some x ∷ slots) zero passed = omega (arith, count-cons p x (living slots), ap one passed)
  counted_at (Some x ∷ slots) (suc i) passed = omega (arith, count-cons p x (living slots), counted_at slots i passed)

  -- before one that passes there is one less at least
  pub counted_before : (slots : List (Option Lock)) (i : ℕ) → has_in p slots i ≡ true → suc (count_by p (living (take i slots))) ≤ count_by p (living slots)
  counted_before [] i passed = absurd (cc)
  counted_before (None ∷ slots) zero passed = absurd (cc)
  counted_before (None ∷ slots) (suc i) passed = counted_before slots i passed
  counted_before (Some x ∷ slots) zero passed = omega (arith, count-cons p x (living slots), ap one passed)
  counted_before (Some x ∷ slots) (suc i) passed =
      omega (arith, count-cons p x (living slots), count-cons p x (living (take i slots)), counted_before slots i passed)

  pub only_at : (slots : List (Option Lock)) (i : ℕ) → count_by p (living slots) ≤ 1 → has_in p slots i ≡ true → find p (living slots) ≡ get_or slots i None
  only_at [] i few passed = absurd (cc)
  only_at (None ∷ slots) zero few passed = absurd (cc)
  only_at (None ∷ slots) (suc i) few passed = only_at slots i few passed
  only_at (Some x ∷ slots) zero few passed = rw passed refl
  only_at (Some x ∷ slots) (suc i) few passed = by_test (p x) refl (λ fewer. only_at slots i fewer passed)
    where
      by_test : (b : Bool) → p x ≡ b → (count_by p (living slots) ≤ 1 → find p (living slots) ≡ get_or slots i None)
          → cond b (Some x) (find p (living slots)) ≡ get_or slots i None
      by_test true here rest = absurd (omega (arith, few, count-cons p x (living slots), ap one here, counted_at slots i passed))
      by_test false other rest = rest (omega (arith, few, count-cons p x (living slots), ap one other))

  -- none of the slots has one, so none does
  pub none_counted : (slots : List (Option Lock)) → ((i : ℕ) → i < length slots → has_in p slots i ≡ false) → count_by p (living slots) ≡ 0
  none_counted [] none = refl
  none_counted (None ∷ slots) none = none_counted slots (λ i less. none (suc i) (omega (arith, less)))
  none_counted (Some x ∷ slots) none =
      omega (arith, count-cons p x (living slots), ap one (none 0 (omega arith)), none_counted slots (λ i less. none (suc i) (omega (arith, less))))

  -- the other way round
  pub counted_none : (slots : List (Option Lock)) → count_by p (living slots) ≡ 0 → (i : ℕ) → has_in p slots i ≡ false
  counted_none slots none i = by_test (has_in p slots i) refl
    where
      by_test : (b : Bool) → has_in p slots i ≡ b → b ≡ false
      by_test true here = absurd (omega (arith, none, counted_at slots i here))
      by_test false other = refl

  -- the last of a list that passes
  or_else : Option Lock → Option Lock → Option Lock
  or_else None o = o
  or_else (Some x) o = Some x

  last_passing : List Lock → Option Lock
  last_passing [] = None
  last_passing (x ∷ xs) = or_else (last_passing xs) (cond (p x) (Some x) None)

  find_push : (xs : List Lock) (x : Lock) → find p (xs ++ x ∷ []) ≡ or_else (find p xs) (cond (p x) (Some x) None)
  unfolding or_else
  find_push [] x = refl
  find_push (y ∷ xs) x = by_test (p y) (find_push xs x)
    where
      by_test : (b : Bool) → find p (xs ++ x ∷ []) ≡ or_else (find p xs) (cond (p x) (Some x) None)
          → cond b (Some y) (find p (xs ++ x ∷ [])) ≡ or_else (cond b (Some y) (find p xs)) (cond (p x) (Some x) None)
      by_test true rest = refl
      by_test false rest = rest

  find_reverse : (xs : List Lock) → find p (reverse xs) ≡ last_passing xs
  unfolding last_passing
  find_reverse [] = refl
  find_reverse (x ∷ xs) = ap (find p) (reverse-append (x ∷ []) xs) ∙ find_push (reverse xs) x ∙ ap (λ o. or_else o (cond (p x) (Some x) None)) (find_reverse xs)

  last_none : (xs : List Lock) → count_by p xs ≡ 0 → last_passing xs ≡ None
  last_none xs none = sym (find_reverse xs) ∙ find_none p (reverse xs) (omega (arith, count-reverse p xs, none))

  or_some : (o q : Option Lock) → passes p o ≡ true → or_else o q ≡ o
  unfolding or_else
  or_some None q passed = absurd (cc)
  or_some (Some x) q passed = refl

  last_at : (slots : List (Option Lock)) (i : ℕ) → has_in p slots i ≡ true → NoneIn p slots (suc i) (length slots)
      → last_passing (living slots) ≡ get_or slots i None
  unfolding last_passing or_else
  last_at [] i passed none = absurd (cc)
  last_at (None ∷ slots) zero passed none = absurd (cc)
  last_at (Some x ∷ slots) zero passed none =
      rw (last_none (living slots) (none_counted slots (λ j less. none (suc j) (omega arith) (omega (arith, less)))), passed) refl
  last_at (None ∷ slots) (suc i) passed none = last_at slots i passed (λ j ge less. none (suc j) (omega (arith, ge)) (omega (arith, less)))
  last_at (Some x ∷ slots) (suc i) passed none =
      ap (λ o. or_else o (cond (p x) (Some x) None)) (last_at slots i passed (λ j ge less. none (suc j) (omega (arith, ge)) (omega (arith, less))))
      ∙ or_some (get_or slots i None) (cond (p x) (Some x) None) passed

  -- the last lock that passes is that in the last slot that has one
  pub last_found : (slots : List (Option Lock)) (o : Option ℕ) → IsLastIn p slots (length slots) o → find p (reverse (living slots)) ≡ lock_in slots o
  last_found slots None none = find_reverse (living slots) ∙ last_none (living slots) (none_counted slots (λ i less. none i (omega arith) less))
  last_found slots (Some i) last = find_reverse (living slots) ∙ last_at slots i last.0 last.2
