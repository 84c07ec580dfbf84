-- What a list of places has once one of them is written.
use Rattle.std.proofs.Common.{List, None, Option, Some, [], arith, get_or, length, refl, set, suc, zero, ℕ, ◌+◌, ◌<◌, ◌∷◌, ◌≡◌}
use Rattle.lists.specs.Living.{living}

-- 1 where there is one
abbrev pub held : {A : Type 0} → Option A → ℕ
held None = 0
held (Some x) = 1

module _ {A : Type 0} where
  pub living-set : (xs : List (Option A)) (i : ℕ) (o : Option A) → i < length xs
      → length (living (set xs i o)) + held (get_or xs i None) ≡ length (living xs) + held o
  living-set [] i o within = absurd (omega arith)
  living-set (None ∷ xs) zero None within = refl
  living-set (None ∷ xs) zero (Some y) within = omega arith
  living-set (Some x ∷ xs) zero None within = omega arith
  living-set (Some x ∷ xs) zero (Some y) within = omega arith
  living-set (None ∷ xs) (suc i) o within = living-set xs i o (omega arith)
  living-set (Some x ∷ xs) (suc i) o within = omega (arith, living-set xs i o (omega arith))

  pub none_living : (xs : List (Option A)) → ((i : ℕ) → get_or xs i None ≡ None) → living xs ≡ []
  none_living [] none = refl
  none_living (None ∷ xs) none = none_living xs (λ i. none (suc i))
  none_living (Some x ∷ xs) none = let both : Some x ≡ None = none 0 in absurd (cc)
