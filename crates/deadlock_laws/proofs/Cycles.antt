-- A cycle lasts where each of its threads still waits for the next.
use Rattle.state_text.specs.Waiting.{round, round_by}
use Rattle.std.proofs.Common.{Bool, List, None, Option, Some, [], ap, arith, cond, eqb, false, ltb, refl, sym, suc, true, zero, ℕ, ◌∙◌, ◌∷◌, ◌≡◌, ◌≤◌}
use Rattle.std.proofs.lemmas.Bool.{eqb-true, or_parts}
use Rattle.std.proofs.lemmas.Option.{none-some}
use Rattle.std.specs.List.{list_any}
use Rattle.std.specs.Prelude.{option_map}

-- the next of a thread, if there is one
pub record Next (next : ℕ → Option ℕ) (h : ℕ) : Type 0 where
  pub to : ℕ
  pub is : next h ≡ Some to

pub none_at_all : (us : List ℕ) → list_any (λ u. false) us ≡ false
none_at_all [] = refl
none_at_all (u ∷ us) = none_at_all us

module _ (next : ℕ → Option ℕ) (t : ℕ) where
  -- who is in a round has a next
  pub has_next : (n here : ℕ) (c : List ℕ) → round next t n here ≡ Some c → Next next here
  has_next zero here c is = absurd (none-some c is)
  has_next (suc n) here c is = by_less (ltb here t) is
    where
      by_next : (o : Option ℕ) → next here ≡ o → round_by (round next t n) t here o ≡ Some c → Next next here
      by_next None e is = absurd (none-some c is)
      by_next (Some u) e is = record { to = u; is = e }

      by_less : (b : Bool) → cond b None (round_by (round next t n) t here (next here)) ≡ Some c → Next next here
      by_less true is = absurd (none-some c is)
      by_less false is = by_next (next here) refl is

  -- who begins a round is its first
  pub is_head : (n here : ℕ) (c : List ℕ) → round next t n here ≡ Some c → (q : ℕ → Bool) → list_any q c ≡ false → q here ≡ false
  is_head zero here c is q calm = absurd (none-some c is)
  is_head (suc n) here c is q calm = by_less (ltb here t) is
    where
      by_list : (us : List ℕ) → Some (here ∷ us) ≡ Some c → q here ≡ false
      by_list us is =
          let same : (here ∷ us) ≡ c = cc in
          (or_parts (q here) (list_any q us) (ap (list_any q) same ∙ calm)).0

      by_rest : (o : Option (List ℕ)) → option_map (λ us. here ∷ us) o ≡ Some c → q here ≡ false
      by_rest None is = absurd (none-some c is)
      by_rest (Some us) is = by_list us is

      by_same : (b : Bool) (o : Option (List ℕ)) → cond b (Some (here ∷ [])) (option_map (λ us. here ∷ us) o) ≡ Some c → q here ≡ false
      by_same true o is = by_list [] is
      by_same false o is = by_rest o is

      by_next : (o : Option ℕ) → round_by (round next t n) t here o ≡ Some c → q here ≡ false
      by_next None is = absurd (none-some c is)
      by_next (Some u) is = by_same (eqb u t) (round next t n u) is

      by_less : (b : Bool) → cond b None (round_by (round next t n) t here (next here)) ≡ Some c → q here ≡ false
      by_less true is = absurd (none-some c is)
      by_less false is = by_next (next here) is

  -- and so has the next of each
  pub next_goes : (n here : ℕ) (c : List ℕ) → Next next t → round next t n here ≡ Some c → (u : ℕ) → next here ≡ Some u → Next next u
  next_goes zero here c first is u e = absurd (none-some c is)
  next_goes (suc n) here c first is u e = by_less (ltb here t) is
    where
      by_rest : (o : Option (List ℕ)) → round next t n u ≡ o → option_map (λ us. here ∷ us) o ≡ Some c → Next next u
      by_rest None same is = absurd (none-some c is)
      by_rest (Some us) same is = has_next n u us same

      by_same : (b : Bool) → eqb u t ≡ b → cond b (Some (here ∷ [])) (option_map (λ us. here ∷ us) (round next t n u)) ≡ Some c → Next next u
      by_same true same is = record { to = first.to; is = ap next (eqb-true u t same) ∙ first.is }
      by_same false same is = by_rest (round next t n u) refl is

      by_less : (b : Bool) → cond b None (round_by (round next t n) t here (next here)) ≡ Some c → Next next u
      by_less true is = absurd (none-some c is)
      by_less false is = by_same (eqb u t) refl (ap (round_by (round next t n) t here) (sym e) ∙ is)

  -- it lasts where each that isn't q still goes on to its next, and none is q
  module _ (next' : ℕ → Option ℕ) (first : Next next t) (q : ℕ → Bool)
      (keeps : (h v w : ℕ) → q h ≡ false → next h ≡ Some v → next v ≡ Some w → next' h ≡ Some v) where
    pub round_lasts : (n n' : ℕ) → n ≤ n' → (here : ℕ) (c : List ℕ) → round next t n here ≡ Some c → list_any q c ≡ false → round next' t n' here ≡ Some c
    round_lasts zero n' most here c is calm = absurd (none-some c is)
    round_lasts (suc n) zero most here c is calm = absurd (omega (arith, most))
    round_lasts (suc n) (suc n') most here c is calm = by_less (ltb here t) (λ u us e fine. round_lasts n n' (omega (arith, most)) u us e fine) is
      where
        Later : Type 0
        Later = (u : ℕ) (us : List ℕ) → round next t n u ≡ Some us → list_any q us ≡ false → round next' t n' u ≡ Some us

        -- of here, and of the rest
        calm_parts : (us : List ℕ) → Some (here ∷ us) ≡ Some c → (q here ≡ false) × (list_any q us ≡ false)
        calm_parts us is =
            let same : (here ∷ us) ≡ c = cc in
            or_parts (q here) (list_any q us) (ap (list_any q) same ∙ calm)

        by_rest : (u : ℕ) → Later → (o : Option (List ℕ)) → round next t n u ≡ o → next here ≡ Some u → option_map (λ us. here ∷ us) o ≡ Some c
            → (next' here ≡ Some u) × (option_map (λ us. here ∷ us) (round next' t n' u) ≡ Some c)
        by_rest u later None e is_next is = absurd (none-some c is)
        by_rest u later (Some us) e is_next is =
            let after = has_next n u us e in
            let both = calm_parts us is in
            (keeps here u after.to both.0 is_next after.is, ap (option_map (λ us. here ∷ us)) (later u us e both.1) ∙ is)

        by_same : (b : Bool) (u : ℕ) → eqb u t ≡ b → Later → next here ≡ Some u
            → cond b (Some (here ∷ [])) (option_map (λ us. here ∷ us) (round next t n u)) ≡ Some c
            → (next' here ≡ Some u) × (cond b (Some (here ∷ [])) (option_map (λ us. here ∷ us) (round next' t n' u)) ≡ Some c)
        by_same true u same later is_next is = (keeps here u first.to (calm_parts [] is).0 is_next (ap next (eqb-true u t same) ∙ first.is), is)
        by_same false u same later is_next is = by_rest u later (round next t n u) refl is_next is

        by_next : (o : Option ℕ) → next here ≡ o → Later → round_by (round next t n) t here o ≡ Some c
            → round_by (round next' t n') t here (next' here) ≡ Some c
        by_next None e later is = absurd (none-some c is)
        by_next (Some u) e later is =
            let both = by_same (eqb u t) u refl later e is in
            ap (round_by (round next' t n') t here) both.0 ∙ both.1

        by_less : (b : Bool) → Later → cond b None (round_by (round next t n) t here (next here)) ≡ Some c
            → cond b None (round_by (round next' t n') t here (next' here)) ≡ Some c
        by_less true later is = absurd (none-some c is)
        by_less false later is = by_next (next here) refl later is
