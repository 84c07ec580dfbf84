-- The way from a thread to whom it waits for, step by step.
use Rattle.std.proofs.Common.{Bool, List, [], ap, append_assoc, arith, false, length, refl, suc, sym, ℕ, ◌++◌, ◌-◌, ◌<◌, ◌∷◌, ◌≡◌, ◌≢◌, ◌∙◌}
use Rattle.std.proofs.lemmas.Bool.{lt-ltb, ne_eqb}
use Rattle.trace_page.specs.Waits.{comes_back, hops_from, link_at}
use Rattle.trace_page.specs.declared.scene.Hop.{Hop}
use Rattle.trace_page.specs.declared.waits.Link.{Link}

one_less : (n : ℕ) → 0 < n → n ≡ suc (n - 1)
one_less n some = omega (arith, some)

module _ (links : List Link) (start : ℕ) where
  one_step : (left at : ℕ) (link : Link) → link ≡ link_at links at → start < link.next → link.next < length links
      → comes_back links start (suc left) at ≡ comes_back links start left link.next
  one_step left at link is above within = rw (sym is) (rw (lt-ltb start link.next above, lt-ltb link.next (length links) within) refl)

  -- the way goes on from the next place
  pub goes_on : (left at : ℕ) (link : Link) → link ≡ link_at links at → 0 < left → start < link.next → link.next < length links
      → (end : Bool) → comes_back links start left at ≡ end → comes_back links start (left - 1) link.next ≡ end
  goes_on left at link is some above within end all =
      sym (one_step (left - 1) at link is above within) ∙ (sym (ap (λ k. comes_back links start k at) (one_less left some)) ∙ all)

  one_hop : (left at : ℕ) (begins : Bool) (link to : Link) → link ≡ link_at links at → to ≡ link_at links link.next → link.next ≢ start
      → hops_from links start (suc left) at begins ≡ record { from = link.id; to = to.id; begins = begins } ∷ hops_from links start left link.next false
  one_hop left at begins link to is names on = rw (sym is) (rw (sym names) (rw (ne_eqb link.next start on) refl))

  -- a step is put there, and it isn't the last
  pub hop_more : (left at : ℕ) (begins : Bool) (link to : Link) → link ≡ link_at links at → to ≡ link_at links link.next → 0 < left → link.next ≢ start
      → (out more end : List Hop) → more ≡ out ++ record { from = link.id; to = to.id; begins = begins } ∷ []
      → out ++ hops_from links start left at begins ≡ end → more ++ hops_from links start (left - 1) link.next false ≡ end
  hop_more left at begins link to is names some on out more end put all =
      let hop : Hop = record { from = link.id; to = to.id; begins = begins } in
      let later : List Hop = hops_from links start (left - 1) link.next false in
      let step : hops_from links start left at begins
      ≡ hop ∷ later = ap (λ k. hops_from links start k at begins) (one_less left some) ∙ one_hop (left - 1) at begins link to is names on in
      ap (λ x. x ++ later) put ∙ (append_assoc out (hop ∷ []) later ∙ (sym (ap (λ x. out ++ x) step) ∙ all))
