use Rattle.std.proofs.Common.{◌≡◌, ◌++◌, ℕ, List, ap, append_assoc, subst, ◌∙◌}
use Rattle.std.specs.Fmt.{decimal}
use Rattle.std.specs.Prelude.{OnOk, codes}
use Rattle.script_printer.proofs.printing.add_limit_line.Goals as goal

pub returns : goal.returns
returns c =
    let old = c.args.out.now.items in
    let n = decimal c.args.births in
    subst (λ (l : List ℕ). OnOk c.add_text-2.result (c.add_text-2.new.out.items ≡ l))
    (ap (λ (l : List ℕ). l ++ codes "\n") (c.in_ok-add_number.ensures ∙ ap (λ (l : List ℕ). l ++ n) c.in_ok-add_text.ensures)
    ∙ append_assoc (old ++ codes "limit births ") n (codes "\n")
    ∙ append_assoc old (codes "limit births ") (n ++ codes "\n"))
    c.add_text-2.ensures
