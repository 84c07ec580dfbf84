-- A loop that tells what a list holds, one by one.
use Rattle.std.proofs.Common.{List, [], ap, append-nil, append_assoc, drop, length, slice_index_or, sym, ℕ, ◌++◌, ◌+◌, ◌<◌, ◌∙◌, ◌∷◌, ◌≡◌, ◌≤◌}
use Rattle.std.proofs.lemmas.List.{at_drop_all, at_drop_more}

module _ (F : ℕ → List ℕ → List ℕ) (g : ℕ → ℕ → List ℕ) (none : (n : ℕ) → F n [] ≡ [])
    (one : (n x : ℕ) (xs : List ℕ) → F n (x ∷ xs) ≡ g n x ++ F (n + 1) xs) (out end xs : List ℕ) (i : ℕ) (all : out ++ F i (drop i xs) ≡ end) where
  pub one_told : (next : List ℕ) (d : ℕ) → i < length xs → next ≡ out ++ g i (slice_index_or xs i d) → next ++ F (i + 1) (drop (i + 1) xs) ≡ end
  one_told next d lt put =
      let rest = F (i + 1) (drop (i + 1) xs) in
      rw put
      (append_assoc out (g i (slice_index_or xs i d)) rest
      ∙ ap (λ l. out ++ l) (sym (one i (slice_index_or xs i d) (drop (i + 1) xs)))
      ∙ sym (at_drop_more (λ l. out ++ F i l) xs i d lt)
      ∙ all)

  pub all_told : length xs ≤ i → out ≡ end
  all_told ge = sym (append-nil out) ∙ ap (λ l. out ++ l) (sym (none i)) ∙ sym (at_drop_all (λ l. out ++ F i l) xs i ge) ∙ all
