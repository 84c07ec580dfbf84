-- What each of so many numbers gives, one by one.
use Rattle.std.proofs.Common.{List, ap, append-nil, append_assoc, arith, subst, suc, sym, zero, ℕ, ◌++◌, ◌+◌, ◌-◌, ◌<◌, ◌≡◌, ◌≤◌, ◌∙◌}
use Rattle.trace_page.specs.Waits.{each_from}

module _ {A : Type 0} (f : ℕ → List A) (out end : List A) (n count : ℕ) (all : out ++ each_from f n (count - n) ≡ end) where
  -- one is there more
  pub one_number : n < count → (more : List A) → more ≡ out ++ f n → more ++ each_from f (n + 1) (count - (n + 1)) ≡ end
  one_number lt more e =
      let left : count - n ≡ suc (count - (n + 1)) = omega (arith, lt) in
      let all_on : out ++ (f n ++ each_from f (n + 1) (count - (n + 1))) ≡ end = subst (λ k. out ++ each_from f n k ≡ end) left all in
      ap (λ x. x ++ each_from f (n + 1) (count - (n + 1))) e ∙ append_assoc out (f n) (each_from f (n + 1) (count - (n + 1))) ∙ all_on

  -- all are there
  pub no_number : count ≤ n → out ≡ end
  no_number le =
      let left : count - n ≡ zero = omega (arith, le) in
      sym (append-nil out) ∙ subst (λ k. out ++ each_from f n k ≡ end) left all
