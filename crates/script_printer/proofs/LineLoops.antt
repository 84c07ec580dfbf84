-- A loop over a list prints a line of each item.
use Rattle.std.proofs.Common.{List, append-nil, append_assoc, drop, get_or, length, map, sym, ℕ, ◌++◌, ◌+◌, ◌<◌, ◌≡◌, ◌≤◌, ◌∙◌}
use Rattle.std.proofs.lemmas.List.{at_drop_all, at_drop_more}
use Rattle.script_lines.specs.Line.{phrase_text, with_newline}
use Rattle.script_lines.specs.declared.phrase.Phrase.{Phrase}
use Rattle.script_text.specs.Grammar.{spelling}

module _ {A : Type 0} (f : A → Phrase) (out end : List ℕ) (xs : List A) (i : ℕ) (all : out ++ spelling (map f (drop i xs)) ≡ end) where
  -- another item's line was printed
  pub one_line_more : (next : List ℕ) (default : A) → i < length xs → next ≡ out ++ with_newline (phrase_text (f (get_or xs i default)))
      → next ++ spelling (map f (drop (i + 1) xs)) ≡ end
  one_line_more next default lt put =
      rw put (append_assoc out (with_newline (phrase_text (f (get_or xs i default)))) (spelling (map f (drop (i + 1) xs)))
      ∙ (sym (at_drop_more (λ l. out ++ spelling (map f l)) xs i default lt) ∙ all))

  -- there is no other
  pub no_line_more : length xs ≤ i → out ≡ end
  no_line_more ge = sym (append-nil out) ∙ (sym (at_drop_all (λ l. out ++ spelling (map f l)) xs i ge) ∙ all)
