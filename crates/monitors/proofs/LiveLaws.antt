-- Numbers that rise: where one stands, and that they go on rising.
use Rattle.lwp_types.specs.CountLaws.{any_counted, count-cons, count_any, one}
use Rattle.lwp_types.specs.OnlyLaws.{count_at, filter_none, remove_only}
use Rattle.lwp_types.specs.State.{member, times_in, without}
use Rattle.monitors.specs.Kept.{AreRising, IsAt}
use Rattle.std.proofs.Common.{Bool, List, None, Option, Some, [], ap, arith, cond, eqb, false, get_or, inl, inr}
use Rattle.std.proofs.Common.{is_some, length, not, refl, suc, sym, true, zero, ℕ, ◌++◌, ◌<◌, ◌∷◌, ◌≡◌, ◌≤◌}
use Rattle.std.proofs.lemmas.Bool.{cases_eq, eq-eqb, ne_eqb}
use Rattle.std.specs.List.{AllByRecursion, remove}
use Rattle.std.specs.List.Sorted.{IsNonDecreasingBy}
use Rattle.std.specs.Prelude.{IfNone, IfSome}

All-at : (P : ℕ → Type 0) (ns : List ℕ) (i d : ℕ) → i < length ns → AllByRecursion P ns → P (get_or ns i d)
All-at P [] i d within all = absurd (omega arith)
All-at P (n ∷ ns) zero d within all = all.0
All-at P (n ∷ ns) (suc i) d within all = All-at P ns i d (omega arith) all.1

rises : (ns : List ℕ) (i j d : ℕ) → AreRising ns → i < j → j < length ns → get_or ns i d < get_or ns j d
rises [] i j d rising lt within = absurd (omega arith)
rises (n ∷ ns) i zero d rising lt within = absurd (omega arith)
rises (n ∷ ns) zero (suc j) d rising lt within = All-at (λ m. n < m) ns j d (omega arith) rising.0
rises (n ∷ ns) (suc i) (suc j) d rising lt within = rises ns i j d rising.1 (omega arith) (omega arith)

pub never_falls : (ns : List ℕ) → AreRising ns → IsNonDecreasingBy (λ (n : ℕ). n) ns
never_falls ns rising i j d le within = elim (cases_eq i j) [
  | inl same ↦ omega (arith, ap (λ k. get_or ns k d) same)
  | inr other ↦ omega (arith, rises ns i j d rising (omega (arith, le, other)) within)
]

above_none : (n m : ℕ) (ns : List ℕ) → AllByRecursion (λ k. n < k) ns → m ≤ n → times_in ns m ≡ 0
above_none n m [] all low = refl
above_none n m (k ∷ ns) all low =
    omega (arith, count-cons (λ j. eqb j m) k ns, ap one (ne_eqb k m (λ e. absurd (omega (arith, e, all.0, low)))), above_none n m ns all.1 low)

pub at_most_once : (ns : List ℕ) (m : ℕ) → AreRising ns → times_in ns m ≤ 1
at_most_once [] m rising = omega arith
at_most_once (n ∷ ns) m rising = elim (cases_eq n m) [
  | inl same ↦ omega (arith, count-cons (λ j. eqb j m) n ns, ap one (eq-eqb n m same), above_none n m ns rising.0 (omega (arith, same)))
  | inr other ↦ omega (arith, count-cons (λ j. eqb j m) n ns, ap one (ne_eqb n m other), at_most_once ns m rising.1)
]

-- what the search says

not_member : (ns : List ℕ) (m : ℕ) → times_in ns m ≡ 0 → member m ns ≡ false
not_member ns m none = by_any (member m ns) refl
  where
    by_any : (b : Bool) → member m ns ≡ b → b ≡ false
    by_any false e = refl
    by_any true e = absurd (omega (arith, none, count_any (λ n. eqb n m) ns e))

pub found_is_member : (ns : List ℕ) (m : ℕ) (o : Option ℕ) → IfNone o (times_in ns m ≡ 0) → IfSome o (IsAt m ns) → is_some o ≡ member m ns
found_is_member ns m None none some = sym (not_member ns m none)
found_is_member ns m (Some i) none some =
    sym (any_counted (λ n. eqb n m) ns (omega (arith, count_at (λ n. eqb n m) ns i 0 some.within (eq-eqb (get_or ns i 0) m (some.here 0)))))

pub without_found : (ns : List ℕ) (m i : ℕ) → AreRising ns → IsAt m ns i → remove ns i ≡ without m ns
without_found ns m i rising here = remove_only (λ n. eqb n m) ns i 0 (at_most_once ns m rising) here.within (eq-eqb (get_or ns i 0) m (here.here 0))

pub without_none : (ns : List ℕ) (m : ℕ) → times_in ns m ≡ 0 → without m ns ≡ ns
without_none ns m none = filter_none (λ n. eqb n m) ns none

-- changes

pub All-without : (P : ℕ → Type 0) (m : ℕ) (ns : List ℕ) → AllByRecursion P ns → AllByRecursion P (without m ns)
All-without P m [] all = tt
All-without P m (n ∷ ns) all = by_test (eqb n m) (All-without P m ns all.1)
  where
    by_test : (b : Bool) → AllByRecursion P (without m ns) → AllByRecursion P (cond (not b) (n ∷ without m ns) (without m ns))
    by_test true rest = rest
    by_test false rest = (all.0, rest)

pub AreRising-without : (m : ℕ) (ns : List ℕ) → AreRising ns → AreRising (without m ns)
AreRising-without m [] rising = tt
AreRising-without m (n ∷ ns) rising = by_test (eqb n m) (AreRising-without m ns rising.1)
  where
    by_test : (b : Bool) → AreRising (without m ns) → AreRising (cond (not b) (n ∷ without m ns) (without m ns))
    by_test true rest = rest
    by_test false rest = (All-without (λ k. n < k) m ns rising.0, rest)

All-push : (P : ℕ → Type 0) (ns : List ℕ) (n : ℕ) → AllByRecursion P ns → P n → AllByRecursion P (ns ++ n ∷ [])
All-push P [] n all here = (here, tt)
All-push P (m ∷ ns) n all here = (all.0, All-push P ns n all.1 here)

pub AreRising-push : (ns : List ℕ) (n : ℕ) → AreRising ns → AllByRecursion (λ m. m < n) ns → AreRising (ns ++ n ∷ [])
AreRising-push [] n rising born = (tt, tt)
AreRising-push (m ∷ ns) n rising born = (All-push (λ k. m < k) ns n rising.0 born.0, AreRising-push ns n rising.1 born.1)

All-later : (n k : ℕ) (ns : List ℕ) → AllByRecursion (λ m. m < n) ns → n ≤ k → AllByRecursion (λ m. m < k) ns
All-later n k [] born le = tt
All-later n k (m ∷ ns) born le = (omega (arith, born.0, le), All-later n k ns born.1 le)

pub born-push : (ns : List ℕ) (n k : ℕ) → AllByRecursion (λ m. m < n) ns → n < k → AllByRecursion (λ m. m < k) (ns ++ n ∷ [])
born-push ns n k born lt = All-push (λ m. m < k) ns n (All-later n k ns born (omega (arith, lt))) lt
