use Rattle.std.proofs.Common.{◌≡◌, ℕ, List, length, take, drop, Option, Some, None, sym, ap, ◌∙◌}
use Rattle.std.specs.Prelude.{min, option_and_then}
use Rattle.std.proofs.lemmas.List.{take_min, drop_min}
use Rattle.script_lines.specs.declared.table.Kind.{Kind}
use Rattle.script_lines.specs.declared.table.Op.{Op}
use Rattle.script_lines.specs.Phrase.{Phrase}
use Rattle.script_lines.specs.Table.{slots_of, op_at, key_length}
use Rattle.script_lines.specs.Line.{blank}
use Rattle.script_lines.specs.Reading.{fill, phrase_at}
use Rattle.script_lines.proofs.phrase.phrase_at.Goals as goal

-- what a line says, by what its key was found to be: the key is cut where it ends, or where the line does
said : (line : List ℕ) (n m : ℕ) (key : List ℕ) (x : Option Op) → n ≡ key_length line → m ≡ min n (length line) → key ≡ take m line
    → op_at key ≡ x → phrase_at line ≡ option_and_then (λ o. fill (slots_of o) (blank o) (drop m line)) x
unfolding phrase_at
said line n m key x long cut front found =
    let k = key_length line in
    let at : m ≡ min k (length line) = cut ∙ ap (λ i. min i (length line)) long in
    let named : op_at (take k line) ≡ x = ap op_at (sym (front ∙ ap (λ i. take i line) at ∙ take_min k line)) ∙ found in
    let rest : drop k line ≡ drop m line = sym (ap (λ i. drop i line) at ∙ drop_min k line) in
    ap (λ y. option_and_then (λ o. fill (slots_of o) (blank o) (drop k line)) y) named ∙ ap (λ r. option_and_then (λ o. fill (slots_of o) (blank o) r) x) rest

-- the slots, the blank phrase and the rest, where each is known by an equation
filled : (o : Op) (ks : List Kind) (b : Phrase) (rest r : List ℕ) → ks ≡ slots_of o → b ≡ blank o → r ≡ rest → fill ks b r ≡ fill (slots_of o) (blank o) rest
filled o ks b rest r p q s = ap (λ l. fill l b r) p ∙ ap (λ v. fill (slots_of o) v r) q ∙ ap (fill (slots_of o) (blank o)) s

pub returns-in_err-op : goal.returns-in_err-op
returns-in_err-op c = c.from_residual.ensures
    ∙ sym (said c.args.line.now _ _ _ None c.key_length.ensures c.min.ensures c.split_at.ensures.front (sym c.at.ensures ∙ c.in_err-op.was))

pub returns-in_err-fill : goal.returns-in_err-fill
returns-in_err-fill c =
    c.from_residual-in_err-fill.ensures ∙ (rw c.in_err-fill.was at c.fill.ensures)
    ∙ filled c.in_ok-op.op _ _ _ _ c.slots.ensures c.blank-phrase.ensures c.split_at.ensures.back
    ∙ sym (said c.args.line.now _ _ _ (Some c.in_ok-op.op) c.key_length.ensures c.min.ensures c.split_at.ensures.front (sym c.at.ensures ∙ c.in_ok-op.was))

pub returns : goal.returns
returns c =
    (rw c.in_ok-fill.was at c.fill.ensures)
    ∙ filled c.in_ok-op.op _ _ _ _ c.slots.ensures c.blank-phrase.ensures c.split_at.ensures.back
    ∙ sym (said c.args.line.now _ _ _ (Some c.in_ok-op.op) c.key_length.ensures c.min.ensures c.split_at.ensures.front (sym c.at.ensures ∙ c.in_ok-op.was))
