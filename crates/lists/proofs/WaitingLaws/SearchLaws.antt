-- What a search comes to in a list whose numbers rise: for the crates above, which keep such lists together with those
-- that wait.
use Rattle.lwp_types.specs.CountLaws.{count-cons, one}
use Rattle.std.proofs.Common.{Bool, List, [], ap, arith, count_by, eqb, false, get_or, inl, inr, length, ltb, refl, suc, true, ℕ, ◌<◌, ◌∷◌, ◌≡◌, ◌≤◌}
use Rattle.std.proofs.lemmas.Bool.{cases_lt, ltb-false, ltb-true, ne_eqb}
use Rattle.std.specs.List.Sorted.{IsNonDecreasingBy, IsPartitionPoint}

-- where none passes, none is counted
pub none_pass : {X : Type 0} (p : X → Bool) (xs : List X) (d : X) → ((j : ℕ) → j < length xs → p (get_or xs j d) ≡ false) → count_by p xs ≡ 0
none_pass p [] d none = refl
none_pass p (x ∷ xs) d none = omega (arith, count-cons p x xs, ap one (none 0 (omega arith)), none_pass p xs d (λ j lt. none (suc j) (omega (arith, lt))))

module _ {X : Type 0} (f : X → ℕ) (n : ℕ) (xs : List X) (at : ℕ) (d : X) (rises : IsNonDecreasingBy f xs)
    (point : IsPartitionPoint (λ x. ltb (f x) n ≡ true) (λ x. ltb (f x) n ≡ false) xs at) where
  pub less_before : (j : ℕ) → j < at → eqb (f (get_or xs j d)) n ≡ false
  less_before j lt = ne_eqb (f (get_or xs j d)) n (λ e. absurd (omega (arith, ltb-true (f (get_or xs j d)) n (point.0 j d (omega arith) lt), e)))

  -- where another stands at the place of n, n is nowhere
  pub none_there : (at < length xs → f (get_or xs at d) ≡ n → ⊥) → count_by (λ x. eqb (f x) n) xs ≡ 0
  none_there other = none_pass (λ x. eqb (f x) n) xs d (λ j lt. elim (cases_lt j at) [
    | inl before ↦ less_before j before
    | inr after ↦
        let more : n ≤ f (get_or xs at d) = ltb-false (f (get_or xs at d)) n (point.1 at d (omega arith) (omega (arith, after, lt))) in
        let rise : f (get_or xs at d) ≤ f (get_or xs j d) = rises at j d after lt in
        ne_eqb (f (get_or xs j d)) n (λ e. other (omega (arith, after, lt)) (omega (arith, more, rise, e)))
  ])
