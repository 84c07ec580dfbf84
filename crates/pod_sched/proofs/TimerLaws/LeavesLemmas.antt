-- Leaves: what they have once one is added, emptied or looked for.
use Rattle.lwp_types.specs.CountLaws.{count-cons, count-filter-le, count-push, count_none, one}
use Rattle.lwp_types.specs.Counts.{timers_of}
use Rattle.lwp_types.specs.State.{passes}
use Rattle.lwp_types.specs.Time.{is_due}
use Rattle.lwp_types.specs.Unblock.{is_timer_of, without_timer}
use Rattle.lwp_types.specs.declared.rows.TimerRow.{TimerRow}
use Rattle.std.proofs.Common.{Bool, List, None, Option, Some, [], ap, arith, cond, eqb, false, get_or, get_or-set_other, get_or-set_same, inl, inr}
use Rattle.std.proofs.Common.{is_some, length, min, not, option_map, refl, set, suc, sym, true, zero, ℕ, ◌++◌, ◌+◌, ◌<◌, ◌∙◌, ◌∷◌, ◌≡◌, ◌≢◌, ◌≤◌}
use Rattle.std.proofs.lemmas.Bool.{cases_eq, eq-eqb, lt-leb, ne_eqb}
use Rattle.std.specs.List.{filter, find, fold, list_any}
use Rattle.pod_sched.specs.Timers.Leaves.{IsOnce, due_of, first_of, never}
use Rattle.lists.specs.Living.{living}
use Rattle.pod_sched.specs.Timers.Clock.{next_due}
use Rattle.pod_sched.specs.Timers.Minima.{first_within, least}

-- it, where there is one
abbrev pub as_list : {A : Type 0} → Option A → List A
as_list None = []
as_list (Some x) = x ∷ []

module _ {A : Type 0} where
  pub living-push : (xs : List (Option A)) (o : Option A) → living (xs ++ o ∷ []) ≡ living xs ++ as_list o
  living-push [] None = refl
  living-push [] (Some x) = refl
  living-push (None ∷ xs) o = living-push xs o
  living-push (Some x ∷ xs) o = ap (λ ys. x ∷ ys) (living-push xs o)

  pub living-packed : (xs : List (Option A)) → living (filter is_some xs) ≡ living xs
  living-packed [] = refl
  living-packed (None ∷ xs) = living-packed xs
  living-packed (Some x ∷ xs) = ap (λ ys. x ∷ ys) (living-packed xs)

  pub length-packed : (xs : List (Option A)) → length (filter is_some xs) ≡ length (living xs)
  length-packed [] = refl
  length-packed (None ∷ xs) = length-packed xs
  length-packed (Some x ∷ xs) = ap suc (length-packed xs)

  pub few_living : (xs : List (Option A)) → length (living xs) ≤ length xs
  few_living [] = omega arith
  few_living (None ∷ xs) = omega (arith, few_living xs)
  few_living (Some x ∷ xs) = omega (arith, few_living xs)

  -- an empty leaf more
  pub get_or-push_none : (xs : List (Option A)) (i : ℕ) → get_or (xs ++ None ∷ []) i None ≡ get_or xs i None
  get_or-push_none [] zero = refl
  get_or-push_none [] (suc i) = refl
  get_or-push_none (x ∷ xs) zero = refl
  get_or-push_none (x ∷ xs) (suc i) = get_or-push_none xs i

-- ---- the first that passes

no_next : (o : Option ℕ) → option_map suc o ≡ None → o ≡ None
no_next None is = refl
no_next (Some i) is = absurd (cc)

next_of : (o : Option ℕ) (j : ℕ) → option_map suc o ≡ Some (suc j) → o ≡ Some j
next_of None j is = absurd (cc)
next_of (Some i) j is = let same : suc i ≡ suc j = option-same is in let less : i ≡ j = omega (arith, same) in ap Some less
  where
    option-same : {x y : ℕ} → Some x ≡ Some y → x ≡ y
    option-same e = cc

no_zero : (o : Option ℕ) → option_map suc o ≡ Some 0 → ⊥
no_zero None is = absurd (cc)
no_zero (Some i) is = let same : suc i ≡ 0 = cc in absurd (omega (arith, same))

module _ {A : Type 0} (p : A → Bool) where
  pub record IsFirst (xs : List (Option A)) (j : ℕ) : Type 0 where
    pub within : j < length xs
    pub passed : passes p (get_or xs j None) ≡ true
    pub is_first : find p (living xs) ≡ get_or xs j None

  pub first_found : (xs : List (Option A)) (j : ℕ) → first_of p xs ≡ Some j → IsFirst xs j
  first_found [] j is = absurd (cc)
  first_found (o ∷ xs) j is = by_test (λ k later. first_found xs k later) o j (passes p o) refl is
    where
      by_test : ((k : ℕ) → first_of p xs ≡ Some k → IsFirst xs k) → (o : Option A) (j : ℕ) (t : Bool) → passes p o ≡ t
          → cond t (Some 0) (option_map suc (first_of p xs)) ≡ Some j → IsFirst (o ∷ xs) j
      by_test rest None j true here is = absurd (cc)
      by_test rest (Some x) zero true here is = record { within = omega arith; passed = here; is_first = rw here refl }
      by_test rest (Some x) (suc j) true here is = absurd (cc)
      by_test rest o zero false away is = absurd (no_zero (first_of p xs) is)
      by_test rest None (suc j) false away is =
          let there = rest j (next_of (first_of p xs) j is) in
          record { within = omega (arith, there.within); passed = there.passed; is_first = there.is_first }
      by_test rest (Some x) (suc j) false away is =
          let there = rest j (next_of (first_of p xs) j is) in
          record { within = omega (arith, there.within); passed = there.passed; is_first = rw away there.is_first }

  pub none_found : (xs : List (Option A)) → first_of p xs ≡ None → find p (living xs) ≡ None
  none_found [] is = refl
  none_found (o ∷ xs) is = by_test (λ later. none_found xs later) o (passes p o) refl is
    where
      by_test : (first_of p xs ≡ None → find p (living xs) ≡ None) → (o : Option A) (t : Bool) → passes p o ≡ t
          → cond t (Some 0) (option_map suc (first_of p xs)) ≡ None → find p (living (o ∷ xs)) ≡ None
      by_test rest o true here is = absurd (cc)
      by_test rest None false away is = rest (no_next (first_of p xs) is)
      by_test rest (Some x) false away is = rw away (rest (no_next (first_of p xs) is))

  pub first-push_past : (xs : List (Option A)) (o : Option A) → passes p o ≡ false → first_of p (xs ++ o ∷ []) ≡ first_of p xs
  first-push_past [] o away = rw away refl
  first-push_past (x ∷ xs) o away = ap (λ r. cond (passes p x) (Some 0) (option_map suc r)) (first-push_past xs o away)

  pub first-push_here : (xs : List (Option A)) (o : Option A) → passes p o ≡ true → first_of p xs ≡ None → first_of p (xs ++ o ∷ []) ≡ Some (length xs)
  first-push_here [] o here none = rw here refl
  first-push_here (x ∷ xs) o here none = by_test (λ later. first-push_here xs o here later) (passes p x) none
    where
      by_test : (first_of p xs ≡ None → first_of p (xs ++ o ∷ []) ≡ Some (length xs)) → (t : Bool)
          → cond t (Some 0) (option_map suc (first_of p xs)) ≡ None → cond t (Some 0) (option_map suc (first_of p (xs ++ o ∷ []))) ≡ Some (suc (length xs))
      by_test rest true is = absurd (cc)
      by_test rest false is = ap (option_map suc) (rest (no_next (first_of p xs) is))

  -- a leaf that doesn't pass is emptied
  pub first-set_past : (xs : List (Option A)) (j : ℕ) → passes p (get_or xs j None) ≡ false → first_of p (set xs j None) ≡ first_of p xs
  first-set_past [] j away = refl
  first-set_past (x ∷ xs) zero away = rw away refl
  first-set_past (x ∷ xs) (suc j) away = ap (λ r. cond (passes p x) (Some 0) (option_map suc r)) (first-set_past xs j away)

-- ---- the timers of one thread

pub counted_at : (xs : List (Option TimerRow)) (j : ℕ) (row : TimerRow) → get_or xs j None ≡ Some row → 1 ≤ timers_of (living xs) row.tid
counted_at [] j row is = absurd (cc)
counted_at (None ∷ xs) zero row is = absurd (cc)
counted_at (None ∷ xs) (suc j) row is = counted_at xs j row is
counted_at (Some x ∷ xs) zero row is =
    let same : x ≡ row = cc in
    omega (arith, count-cons (is_timer_of row.tid) x (living xs), ap one (eq-eqb x.tid row.tid (ap (λ (r : TimerRow). r.tid) same)))
counted_at (Some x ∷ xs) (suc j) row is = omega (arith, count-cons (is_timer_of row.tid) x (living xs), counted_at xs j row is)

none_counted : (t : ℕ) (rows : List TimerRow) → timers_of rows t ≡ 0 → without_timer t rows ≡ rows
none_counted t [] none = refl
none_counted t (row ∷ rows) none = by_test (λ later. none_counted t rows later) (eqb row.tid t) refl
  where
    by_test : (timers_of rows t ≡ 0 → without_timer t rows ≡ rows) → (b : Bool) → eqb row.tid t ≡ b → without_timer t (row ∷ rows) ≡ row ∷ rows
    by_test rest true here = absurd (omega (arith, none, count-cons (is_timer_of t) row rows, ap one here))
    by_test rest false away = rw away (ap (λ ys. row ∷ ys) (rest (omega (arith, none, count-cons (is_timer_of t) row rows))))

-- the leaf is emptied: the timers are those of all others
pub living-emptied : (xs : List (Option TimerRow)) (j : ℕ) (row : TimerRow) → get_or xs j None ≡ Some row
    → timers_of (living xs) row.tid ≤ 1 → living (set xs j None) ≡ without_timer row.tid (living xs)
living-emptied [] j row is once = absurd (cc)
living-emptied (None ∷ xs) zero row is once = absurd (cc)
living-emptied (None ∷ xs) (suc j) row is once = living-emptied xs j row is once
living-emptied (Some x ∷ xs) zero row is once =
    let same : x ≡ row = cc in
    let here : eqb x.tid row.tid ≡ true = eq-eqb x.tid row.tid (ap (λ (r : TimerRow). r.tid) same) in
    rw here (sym (none_counted row.tid (living xs) (omega (arith, once, count-cons (is_timer_of row.tid) x (living xs), ap one here))))
living-emptied (Some x ∷ xs) (suc j) row is once = by_test (λ later. living-emptied xs j row is later) (eqb x.tid row.tid) refl
  where
    by_test : (timers_of (living xs) row.tid ≤ 1 → living (set xs j None) ≡ without_timer row.tid (living xs)) → (b : Bool)
        → eqb x.tid row.tid ≡ b → x ∷ living (set xs j None) ≡ without_timer row.tid (x ∷ living xs)
    by_test rest true here = absurd (omega (arith, once, counted_at xs j row is, count-cons (is_timer_of row.tid) x (living xs), ap one here))
    by_test rest false away = rw away (ap (λ ys. x ∷ ys) (rest (omega (arith, once, count-cons (is_timer_of row.tid) x (living xs)))))

-- a thread of which no leaf is found has no timer
unfound_counted : (t : ℕ) (xs : List (Option TimerRow)) → first_of (is_timer_of t) xs ≡ None → timers_of (living xs) t ≡ 0
unfound_counted t [] none = refl
unfound_counted t (o ∷ xs) none = by_test (λ later. unfound_counted t xs later) o (passes (is_timer_of t) o) refl none
  where
    by_test : (first_of (is_timer_of t) xs ≡ None → timers_of (living xs) t ≡ 0) → (o : Option TimerRow) (b : Bool)
        → passes (is_timer_of t) o ≡ b → cond b (Some 0) (option_map suc (first_of (is_timer_of t) xs)) ≡ None → timers_of (living (o ∷ xs)) t ≡ 0
    by_test rest o true here is = absurd (cc)
    by_test rest None false away is = rest (no_next (first_of (is_timer_of t) xs) is)
    by_test rest (Some x) false away is = omega (arith, count-cons (is_timer_of t) x (living xs), ap one away, rest (no_next (first_of (is_timer_of t) xs) is))

pub living-unfound : (t : ℕ) (xs : List (Option TimerRow)) → first_of (is_timer_of t) xs ≡ None → without_timer t (living xs) ≡ living xs
living-unfound t xs none = none_counted t (living xs) (unfound_counted t xs none)

-- and the other way about
pub uncounted_found : (t : ℕ) (xs : List (Option TimerRow)) → timers_of (living xs) t ≡ 0 → first_of (is_timer_of t) xs ≡ None
uncounted_found t [] none = refl
uncounted_found t (None ∷ xs) none = ap (option_map suc) (uncounted_found t xs none)
uncounted_found t (Some x ∷ xs) none = by_test (λ later. uncounted_found t xs later) (eqb x.tid t) refl
  where
    by_test : (timers_of (living xs) t ≡ 0 → first_of (is_timer_of t) xs ≡ None) → (b : Bool) → eqb x.tid t ≡ b → first_of (is_timer_of t) (Some x ∷ xs) ≡ None
    by_test rest true here = absurd (omega (arith, none, count-cons (is_timer_of t) x (living xs), ap one here))
    by_test rest false away = rw away (ap (option_map suc) (rest (omega (arith, none, count-cons (is_timer_of t) x (living xs)))))

module _ (xs : List (Option TimerRow)) (once : IsOnce xs) where
  pub IsOnce-packed : IsOnce (filter is_some xs)
  IsOnce-packed t = rw (living-packed xs) (once t)

  module _ (row : TimerRow) (new : list_any (is_timer_of row.tid) (living xs) ≡ false) where
    pub unfound_new : first_of (is_timer_of row.tid) xs ≡ None
    unfound_new = uncounted_found row.tid xs (count_none (is_timer_of row.tid) (living xs) new)

    pub IsOnce-push : IsOnce (xs ++ Some row ∷ [])
    IsOnce-push t = rw (living-push xs (Some row)) (elim (cases_eq row.tid t) [
      | inl same
          ↦ omega (
            arith,
            count-push (is_timer_of t) (living xs) row,
            count_none (is_timer_of row.tid) (living xs) new,
            ap (timers_of (living xs)) same,
            ap one (eq-eqb row.tid t same),
          )
      | inr away ↦ omega (arith, count-push (is_timer_of t) (living xs) row, once t, ap one (ne_eqb row.tid t away))
    ])

  module _ (j : ℕ) (row : TimerRow) (is : get_or xs j None ≡ Some row) where
    pub IsOnce-emptied : IsOnce (set xs j None)
    IsOnce-emptied t = rw (living-emptied xs j row is (once row.tid))
        (omega (arith, once t, count-filter-le (is_timer_of t) (λ r. not (is_timer_of row.tid r)) (living xs)))

    pub first-emptied_same : first_of (is_timer_of row.tid) (set xs j None) ≡ None
    first-emptied_same = uncounted_found row.tid (set xs j None) (omega (arith, once row.tid, gone xs j is))
      where
        gone : (ys : List (Option TimerRow)) (j : ℕ) → get_or ys j None ≡ Some row
            → timers_of (living (set ys j None)) row.tid + 1 ≡ timers_of (living ys) row.tid
        gone [] j is = absurd (cc)
        gone (None ∷ ys) zero is = absurd (cc)
        gone (None ∷ ys) (suc j) is = gone ys j is
        gone (Some x ∷ ys) zero is =
            let same : x ≡ row = cc in
            omega (arith, count-cons (is_timer_of row.tid) x (living ys), ap one (eq-eqb x.tid row.tid (ap (λ (r : TimerRow). r.tid) same)))
        gone (Some x ∷ ys) (suc j) is =
            omega (arith, gone ys j is, count-cons (is_timer_of row.tid) x (living ys), count-cons (is_timer_of row.tid) x (living (set ys j None)))

    pub first-emptied_other : (t : ℕ) → t ≢ row.tid → first_of (is_timer_of t) (set xs j None) ≡ first_of (is_timer_of t) xs
    first-emptied_other t away = first-set_past (is_timer_of t) xs j (rw is (ne_eqb row.tid t (λ same. away (sym same))))

-- ---- the ticks

-- the tree has the tick of each leaf
abbrev pub IsTied : List (Option TimerRow) → List ℕ → Type 0
IsTied xs dues = (i : ℕ) → get_or dues i never ≡ due_of (get_or xs i None)

none_come : (now : ℕ) → now < never → (dues : List ℕ) → IsTied [] dues → first_within now dues ≡ None
none_come now early [] tied = refl
none_come now early (d ∷ dues) tied =
    let late : now < d = omega (arith, tied 0, early) in
    rw (lt-leb d now late, none_come now early dues (λ i. tied (suc i))) refl

pub first_come : (now : ℕ) → now < never → (xs : List (Option TimerRow)) (dues : List ℕ) → length xs ≤ length dues → IsTied xs dues
    → first_within now dues ≡ first_of (is_due now) xs
first_come now early [] dues fits tied = none_come now early dues tied
first_come now early (o ∷ xs) [] fits tied = absurd (omega arith)
first_come now early (None ∷ xs) (d ∷ dues) fits tied =
    let late : now < d = omega (arith, tied 0, early) in
    rw (lt-leb d now late, first_come now early xs dues (omega arith) (λ i. tied (suc i))) refl
first_come now early (Some x ∷ xs) (d ∷ dues) fits tied =
    let same : d ≡ x.due = tied 0 in
    rw (same, first_come now early xs dues (omega arith) (λ i. tied (suc i))) refl

-- the least tick of the timers, counted from one that is given
fold-least : (n : ℕ) → n ≤ never → (xs : List (Option TimerRow)) (dues : List ℕ) → length xs ≤ length dues → IsTied xs dues
    → fold (λ m row. min m row.due) n (living xs) ≡ min n (least dues)
fold-least n most [] dues fits tied = rw (none_least dues tied) (omega (arith, most))
  where
    none_least : (dues : List ℕ) → IsTied [] dues → least dues ≡ never
    none_least [] tied = refl
    none_least (d ∷ dues) tied = omega (arith, tied 0, none_least dues (λ i. tied (suc i)))
fold-least n most (o ∷ xs) [] fits tied = absurd (omega arith)
fold-least n most (None ∷ xs) (d ∷ dues) fits tied = omega (arith, most, tied 0, fold-least n most xs dues (omega (arith, fits)) (λ i. tied (suc i)))
fold-least n most (Some x ∷ xs) (d ∷ dues) fits tied =
    omega (arith, tied 0, fold-least (min n x.due) (omega (arith, most)) xs dues (omega (arith, fits)) (λ i. tied (suc i)))

pub least_tied : (xs : List (Option TimerRow)) (dues : List ℕ) → length xs ≤ length dues → IsTied xs dues → least dues ≤ never
    → least dues ≡ next_due (living xs)
least_tied xs dues fits tied most = omega (arith, most, fold-least never (omega arith) xs dues fits tied)

module _ (xs : List (Option TimerRow)) (dues : List ℕ) (tied : IsTied xs dues) where
  pub IsTied-emptied : (j : ℕ) → j < length xs → length xs ≤ length dues → IsTied (set xs j None) (set dues j never)
  IsTied-emptied j within fits i = elim (cases_eq i j) [
    | inl same ↦ rw (same, get_or-set_same dues j never never (omega (arith, within, fits)), get_or-set_same xs j None None within) refl
    | inr away ↦ rw (get_or-set_other dues j i never never away, get_or-set_other xs j i None None away) (tied i)
  ]

  pub IsTied-none : IsTied (xs ++ None ∷ []) dues
  IsTied-none i = tied i ∙ ap due_of (sym (get_or-push_none xs i))

  pub IsTied-push : (row : TimerRow) → length xs < length dues → IsTied (xs ++ Some row ∷ []) (set dues (length xs) row.due)
  IsTied-push row room i = elim (cases_eq i (length xs)) [
    | inl same ↦ rw (same, get_or-set_same dues (length xs) row.due never room) (ap due_of (sym (last xs)))
    | inr away ↦ rw (get_or-set_other dues (length xs) i row.due never away) (tied i ∙ ap due_of (sym (past xs i away)))
  ]
    where
      last : (ys : List (Option TimerRow)) → get_or (ys ++ Some row ∷ []) (length ys) None ≡ Some row
      last [] = refl
      last (y ∷ ys) = last ys

      past : (ys : List (Option TimerRow)) (i : ℕ) → i ≢ length ys → get_or (ys ++ Some row ∷ []) i None ≡ get_or ys i None
      past [] zero away = absurd (away refl)
      past [] (suc i) away = refl
      past (y ∷ ys) zero away = refl
      past (y ∷ ys) (suc i) away = past ys i (λ same. away (ap suc same))

pub IsTied-bare : (n : ℕ) (dues : List ℕ) → ((i : ℕ) → i < length dues → get_or dues i never ≡ never) → IsTied [] dues
IsTied-bare n [] all i = refl
IsTied-bare n (d ∷ dues) all zero = all 0 (omega arith)
IsTied-bare n (d ∷ dues) all (suc i) = IsTied-bare n dues (λ j less. all (suc j) (omega arith)) i
