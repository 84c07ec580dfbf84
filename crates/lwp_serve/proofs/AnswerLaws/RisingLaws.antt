-- Numbers that rise: the last is the greatest, and halving finds each.
use Rattle.lwp_types.specs.ListLaws.{All-push}
use Rattle.lwp_serve.specs.Answers.Replies.{is_among}
use Rattle.lwp_serve.specs.Answers.Rising.{AreRising}
use Rattle.std.proofs.Common.{Err, List, Ok, Result, [], ap, arith, false, get_or, inl, inr, length, suc, sym, zero, ℕ, ◌++◌, ◌∷◌, ◌<◌, ◌≡◌, ◌≤◌, ◌+◌}
use Rattle.std.proofs.lemmas.Bool.{cases_lt, eq-eqb, ne_eqb}
use Rattle.std.proofs.lemmas.Bool.Decides.{nat_tests}
use Rattle.std.proofs.lemmas.Cmp.{ranked}
use Rattle.std.proofs.lemmas.List.Elements.{All-from_get_or}
use Rattle.std.proofs.lemmas.List.Folds.{list_any_at, list_any_none}
use Rattle.std.proofs.lemmas.List.Sorted.{IsNonDecreasingBy-from_default}
use Rattle.std.specs.List.{AllByRecursion}
use Rattle.std.specs.List.Sorted.{IsBinarySearchResult, IsNonDecreasingBy, IsSearchInRange}
use Rattle.std.specs.Ordering.{nat_cmp, ordering_index}
use Rattle.std.specs.Prelude.{nat_eq}
use Rattle.std.specs.Result.{is_ok}

at : (P : ℕ → Type 0) (ns : List ℕ) (i : ℕ) → i < length ns → AllByRecursion P ns → P (get_or ns i 0)
at P [] i within all = absurd (omega arith)
at P (n ∷ ns) zero within all = all.0
at P (n ∷ ns) (suc i) within all = at P ns i (omega arith) all.1

-- of two numbers the later one is greater
rises : (ns : List ℕ) (i j : ℕ) → AreRising ns → i < j → j < length ns → get_or ns i 0 < get_or ns j 0
rises [] i j rising lt within = absurd (omega arith)
rises (n ∷ ns) zero zero rising lt within = absurd (omega arith)
rises (n ∷ ns) zero (suc j) rising lt within = at (λ later. n < later) ns j (omega arith) rising.0
rises (n ∷ ns) (suc i) zero rising lt within = absurd (omega arith)
rises (n ∷ ns) (suc i) (suc j) rising lt within = rises ns i j rising.1 (omega arith) (omega arith)

-- what is greater than the last is greater than all
pub all_less : (ns : List ℕ) (i m d : ℕ) → AreRising ns → i + 1 ≡ length ns → get_or ns i d < m → AllByRecursion (λ n. n < m) ns
all_less [] i m d rising last low = tt
all_less (n ∷ []) zero m d rising last low = (low, tt)
all_less (n ∷ []) (suc i) m d rising last low = absurd (omega (arith, last))
all_less (n ∷ k ∷ ns) zero m d rising last low = absurd (omega (arith, last))
all_less (n ∷ k ∷ ns) (suc i) m d rising last low =
    let rest = all_less (k ∷ ns) i m d rising.1 (omega (arith, last)) low in
    (omega (arith, rest.0, rising.0.0), rest)

pub rising-push : (ns : List ℕ) (m : ℕ) → AreRising ns → AllByRecursion (λ n. n < m) ns → AreRising (ns ++ m ∷ [])
rising-push [] m rising less = (tt, tt)
rising-push (n ∷ ns) m rising less = (All-push (λ later. n < later) ns m rising.0 less.0, rising-push ns m rising.1 less.1)

module _ (ns : List ℕ) (rising : AreRising ns) (n : ℕ) where
  comparisons_rise : IsNonDecreasingBy (λ k. ordering_index (nat_cmp k n)) ns
  comparisons_rise = IsNonDecreasingBy-from_default (λ k. ordering_index (nat_cmp k n)) ns 0 (λ i j le within.
      let numbers_rise : get_or ns i 0 ≤ get_or ns j 0 = grind (arith, rises ns i j rising, λ (same : i ≡ j). ap (λ k. get_or ns k 0) same) in
      grind (arith, nat_tests))

  pub found : (r : Result ℕ ℕ) → IsSearchInRange r (length ns) → IsBinarySearchResult (λ k. nat_cmp k n) ns r → is_ok r ≡ is_among ns n
  found (Ok i) within equal = sym (list_any_at (λ k. nat_eq k n) ns i 0 within (eq-eqb _ n (ranked _ n _ (sym (equal 0)))))
  found (Err i) within parted =
      let smaller = (parted comparisons_rise).0 in
      let greater = (parted comparisons_rise).1 in
      sym (list_any_none (λ k. nat_eq k n) ns (All-from_get_or (λ k. nat_eq k n ≡ false) ns 0 (λ j lt. ne_eqb (get_or ns j 0) n (λ same. elim (cases_lt j i) [
        | inl below ↦ absurd (omega (arith, same, ranked _ n _ (sym (smaller j 0 (omega arith) below))))
        | inr above ↦ absurd (omega (arith, same, ranked _ n _ (sym (greater j 0 above lt))))
      ]))))
