-- A loop over a list appends to a text what each item gives.
use Rattle.lwp_types.specs.declared.call.Effect.{Effect}
use Rattle.lwp_types.specs.declared.call.Line.{Line}
use Rattle.std.proofs.Common.{List, None, Option, [], ap, append-nil, append_assoc, drop, get_or, length, refl, sym, ℕ, ◌++◌, ◌+◌, ◌<◌, ◌∷◌, ◌≡◌, ◌≤◌, ◌∙◌}
use Rattle.std.proofs.lemmas.List.{at_drop_all, at_drop_more}
use Rattle.std.specs.List.{flat_map}
use Rattle.trace_text.specs.Lines.{ended_line, later_lines, line_text, step_lines}

module _ {A B : Type 0} (f : A → List B) (out end : List B) (xs : List A) (i : ℕ) (all : out ++ flat_map f (drop i xs) ≡ end) where
  -- another item's was put there
  pub one_more : (next : List B) (default : A) → i < length xs → next ≡ out ++ f (get_or xs i default) → next ++ flat_map f (drop (i + 1) xs) ≡ end
  one_more next default lt put =
      rw put (append_assoc out (f (get_or xs i default)) (flat_map f (drop (i + 1) xs)) ∙ (sym (at_drop_more (λ l. out ++ flat_map f l) xs i default lt) ∙ all))

  -- there is no other
  pub no_more : length xs ≤ i → out ≡ end
  no_more ge = sym (append-nil out) ∙ (sym (at_drop_all (λ l. out ++ flat_map f l) xs i ge) ∙ all)

-- once the first effect has printed the line that was taken, no other does
later_same : (procs : List (List ℕ)) (effects : List Effect) → step_lines procs None effects ≡ later_lines procs effects
later_same procs [] = refl
later_same procs (e ∷ effects) = refl

module _ (procs : List (List ℕ)) (took : Option Line) (out end : List ℕ) (effects : List Effect) (i : ℕ)
    (all : out ++ step_lines procs took (drop i effects) ≡ end) where
  -- another effect's line was put there
  pub step_more : (next : List ℕ) (default : Effect) → i < length effects
      → next ≡ out ++ ended_line (line_text procs took (get_or effects i default)) → next ++ step_lines procs None (drop (i + 1) effects) ≡ end
  step_more next default lt put =
      let line = ended_line (line_text procs took (get_or effects i default)) in
      rw put
      (append_assoc out line (step_lines procs None (drop (i + 1) effects))
      ∙ ap (λ ls. out ++ (line ++ ls)) (later_same procs (drop (i + 1) effects))
      ∙ sym (at_drop_more (λ l. out ++ step_lines procs took l) effects i default lt)
      ∙ all)

  -- there is no other
  pub step_over : length effects ≤ i → out ≡ end
  step_over ge = sym (append-nil out) ∙ sym (at_drop_all (λ l. out ++ step_lines procs took l) effects i ge) ∙ all
