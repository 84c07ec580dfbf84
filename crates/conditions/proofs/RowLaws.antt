-- Conditions whose numbers rise: where one stands, and that they go on rising.
use Rattle.conditions.specs.Kept.{AreRising, IsAt, IsKept}
use Rattle.lwp_types.specs.CountLaws.{count-cons, one}
use Rattle.lwp_types.specs.Monitors.{is_of_monitor, without_conditions_of}
use Rattle.lwp_types.specs.OnlyLaws.{filter_none, remove_only}
use Rattle.lwp_types.specs.Conditions.{is_condition, without_condition}
use Rattle.lwp_types.specs.declared.rows.CondRow.{CondRow}
use Rattle.std.proofs.Common.{Bool, List, Some, [], ap, arith, cond, count_by, false, get_or, inl, inr}
use Rattle.std.proofs.Common.{length, not, refl, suc, true, zero, ℕ, ◌++◌, ◌<◌, ◌∷◌, ◌≡◌, ◌≤◌}
use Rattle.std.proofs.lemmas.Bool.{cases_eq, eq-eqb, ne_eqb}
use Rattle.std.specs.List.{AllByRecursion, filter, find, remove}
use Rattle.std.specs.List.Sorted.{IsNonDecreasingBy}

abbrev pub no_row : CondRow
no_row = record { number = 0; mon = 0 }

All-at : (P : CondRow → Type 0) (rows : List CondRow) (i : ℕ) (d : CondRow) → i < length rows → AllByRecursion P rows → P (get_or rows i d)
All-at P [] i d within all = absurd (omega arith)
All-at P (row ∷ rows) zero d within all = all.0
All-at P (row ∷ rows) (suc i) d within all = All-at P rows i d (omega arith) all.1

rises : (rows : List CondRow) (i j : ℕ) (d : CondRow) → AreRising rows → i < j → j < length rows → (get_or rows i d).number < (get_or rows j d).number
rises [] i j d rising lt within = absurd (omega arith)
rises (row ∷ rows) i zero d rising lt within = absurd (omega arith)
rises (row ∷ rows) zero (suc j) d rising lt within = All-at (λ later. row.number < later.number) rows j d (omega arith) rising.0
rises (row ∷ rows) (suc i) (suc j) d rising lt within = rises rows i j d rising.1 (omega arith) (omega arith)

pub never_falls : (rows : List CondRow) → AreRising rows → IsNonDecreasingBy (λ (row : CondRow). row.number) rows
never_falls rows rising i j d le within = elim (cases_eq i j) [
  | inl same ↦ omega (arith, ap (λ k. (get_or rows k d).number) same)
  | inr other ↦ omega (arith, rises rows i j d rising (omega (arith, le, other)) within)
]

above_none : (n c : ℕ) (rows : List CondRow) → AllByRecursion (λ row. n < row.number) rows → c ≤ n → count_by (is_condition c) rows ≡ 0
above_none n c [] all low = refl
above_none n c (row ∷ rows) all low = omega
    (arith, count-cons (is_condition c) row rows, ap one (ne_eqb row.number c (λ e. absurd (omega (arith, e, all.0, low)))), above_none n c rows all.1 low)

at_most_once : (rows : List CondRow) (c : ℕ) → AreRising rows → count_by (is_condition c) rows ≤ 1
at_most_once [] c rising = omega arith
at_most_once (row ∷ rows) c rising = elim (cases_eq row.number c) [
  | inl same
      ↦ omega (arith, count-cons (is_condition c) row rows, ap one (eq-eqb row.number c same), above_none row.number c rows rising.0 (omega (arith, same)))
  | inr other ↦ omega (arith, count-cons (is_condition c) row rows, ap one (ne_eqb row.number c other), at_most_once rows c rising.1)
]

pub found_at : (rows : List CondRow) (c i : ℕ) (d : CondRow) → AreRising rows → i < length rows → (get_or rows i d).number ≡ c
    → find (is_condition c) rows ≡ Some (get_or rows i d)
found_at [] c i d rising within here = absurd (omega arith)
found_at (row ∷ rows) c zero d rising within here = rw (eq-eqb row.number c here) refl
found_at (row ∷ rows) c (suc i) d rising within here =
    let less : row.number < (get_or rows i d).number = All-at (λ later. row.number < later.number) rows i d (omega arith) rising.0 in
    rw (ne_eqb row.number c (λ same. absurd (omega (arith, less, here, same)))) (found_at rows c i d rising.1 (omega arith) here)

pub without_found : (rows : List CondRow) (c i : ℕ) → AreRising rows → IsAt c rows i → remove rows i ≡ without_condition c rows
without_found rows c i rising here =
    remove_only (is_condition c) rows i no_row (at_most_once rows c rising) here.within (eq-eqb (get_or rows i no_row).number c (here.here no_row))

pub without_none : (rows : List CondRow) (c : ℕ) → count_by (is_condition c) rows ≡ 0 → without_condition c rows ≡ rows
without_none rows c none = filter_none (is_condition c) rows none

-- changes

module _ (p : CondRow → Bool) where
  All-filter : (P : CondRow → Type 0) (rows : List CondRow) → AllByRecursion P rows → AllByRecursion P (filter p rows)
  All-filter P [] all = tt
  All-filter P (row ∷ rows) all = by_test (p row) (All-filter P rows all.1)
    where
      by_test : (b : Bool) → AllByRecursion P (filter p rows) → AllByRecursion P (cond b (row ∷ filter p rows) (filter p rows))
      by_test true rest = (all.0, rest)
      by_test false rest = rest

  AreRising-filter : (rows : List CondRow) → AreRising rows → AreRising (filter p rows)
  AreRising-filter [] rising = tt
  AreRising-filter (row ∷ rows) rising = by_test (p row) (AreRising-filter rows rising.1)
    where
      by_test : (b : Bool) → AreRising (filter p rows) → AreRising (cond b (row ∷ filter p rows) (filter p rows))
      by_test true rest = (All-filter (λ later. row.number < later.number) rows rising.0, rest)
      by_test false rest = rest

  IsKept-filter : (rows : List CondRow) (births : ℕ) → IsKept rows births → IsKept (filter p rows) births
  IsKept-filter rows births was = record { rising = AreRising-filter rows was.rising; born = All-filter (λ row. row.number < births) rows was.born }

pub IsKept-without : (c : ℕ) (rows : List CondRow) (births : ℕ) → IsKept rows births → IsKept (without_condition c rows) births
IsKept-without c rows births was = IsKept-filter (λ row. not (is_condition c row)) rows births was

pub IsKept-without_of : (m : ℕ) (rows : List CondRow) (births : ℕ) → IsKept rows births → IsKept (without_conditions_of m rows) births
IsKept-without_of m rows births was = IsKept-filter (λ row. not (is_of_monitor m row)) rows births was

All-push : (P : CondRow → Type 0) (rows : List CondRow) (new : CondRow) → AllByRecursion P rows → P new → AllByRecursion P (rows ++ new ∷ [])
All-push P [] new all here = (here, tt)
All-push P (row ∷ rows) new all here = (all.0, All-push P rows new all.1 here)

All-later : (n k : ℕ) (rows : List CondRow) → AllByRecursion (λ row. row.number < n) rows → n ≤ k → AllByRecursion (λ row. row.number < k) rows
All-later n k [] born le = tt
All-later n k (row ∷ rows) born le = (omega (arith, born.0, le), All-later n k rows born.1 le)

AreRising-push : (rows : List CondRow) (new : CondRow) → AreRising rows → AllByRecursion (λ row. row.number < new.number) rows → AreRising (rows ++ new ∷ [])
AreRising-push [] new rising born = (tt, tt)
AreRising-push (row ∷ rows) new rising born = (All-push (λ later. row.number < later.number) rows new rising.0 born.0, AreRising-push rows new rising.1 born.1)

pub IsKept-created : (mon : ℕ) (rows : List CondRow) (births after : ℕ) → IsKept rows births → births < after
    → IsKept (rows ++ record { number = births; mon = mon } ∷ []) after
IsKept-created mon rows births after was later = record {
  rising = AreRising-push rows (record { number = births; mon = mon }) was.rising was.born;
  born = All-push (λ row. row.number < after) rows (record { number = births; mon = mon }) (All-later births after rows was.born (omega (arith, later))) later;
}
