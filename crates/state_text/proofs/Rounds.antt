-- A round, thread by thread.
use Rattle.state_text.specs.Waiting.{round, round_by}
use Rattle.std.proofs.Common.{List, None, Option, Some, [], ap, append_assoc, arith, eqb, false, ltb, refl}
use Rattle.std.proofs.Common.{subst, suc, sym, true, zero, ℕ, ◌++◌, ◌+◌, ◌-◌, ◌<◌, ◌∙◌, ◌∷◌, ◌≡◌, ◌≤◌}
use Rattle.std.specs.Prelude.{option_map}

nothing_before : (o : Option (List ℕ)) → option_map (λ us. [] ++ us) o ≡ o
nothing_before None = refl
nothing_before (Some us) = refl

pub round_starts : (next : ℕ → Option ℕ) (start many : ℕ) → option_map (λ us. [] ++ us) (round next start (many - 0) start) ≡ round next start many start
round_starts next start many = nothing_before (round next start (many - 0) start) ∙ ap (λ n. round next start n start) (omega arith)

one_before : (cycle : List ℕ) (here : ℕ) (o : Option (List ℕ))
    → option_map (λ us. (cycle ++ here ∷ []) ++ us) o ≡ option_map (λ us. cycle ++ us) (option_map (λ us. here ∷ us) o)
one_before cycle here None = refl
one_before cycle here (Some us) = ap Some (append_assoc cycle (here ∷ []) us)

module _ (next : ℕ → Option ℕ) (start many i here : ℕ) (cycle : List ℕ) (end : Option (List ℕ))
    (all : option_map (λ us. cycle ++ us) (round next start (many - i) here) ≡ end) where
  pub round_spent : many ≤ i → None ≡ end
  round_spent over =
      let none : many - i ≡ zero = omega (arith, over) in
      subst (λ n. option_map (λ us. cycle ++ us) (round next start n here) ≡ end) none all

  module _ (lt : i < many) where
    unrolled : option_map (λ us. cycle ++ us) (round next start (suc (many - (i + 1))) here) ≡ end
    unrolled =
        let some : many - i ≡ suc (many - (i + 1)) = omega (arith, lt) in
        subst (λ n. option_map (λ us. cycle ++ us) (round next start n here) ≡ end) some all

    pub round_less : ltb here start ≡ true → None ≡ end
    round_less less = rw less at unrolled

    module _ (least : ltb here start ≡ false) where
      going : option_map (λ us. cycle ++ us) (round_by (round next start (many - (i + 1))) start here (next here)) ≡ end
      going = rw least at unrolled

      pub round_ends : next here ≡ None → None ≡ end
      round_ends none = rw none at going

      pub round_closes : (u : ℕ) → next here ≡ Some u → eqb u start ≡ true → Some (cycle ++ here ∷ []) ≡ end
      round_closes u is same = rw same at (rw is at going)

      pub round_on : (u : ℕ) → next here ≡ Some u → eqb u start ≡ false
          → option_map (λ us. (cycle ++ here ∷ []) ++ us) (round next start (many - (i + 1)) u) ≡ end
      round_on u is other = one_before cycle here (round next start (many - (i + 1)) u) ∙ rw other at (rw is at going)
