use Rattle.std.proofs.Common.{Some, ap, false, is_some, subst, sym, true, ◌∙◌, ◌≡◌}
use Rattle.std.specs.Prelude.{IfOk}
use Rattle.script_text.specs.Meaning.{contains_name, place}
use Rattle.script_text.specs.Parts.{place_in}
use Rattle.script_text.proofs.NameLaws.{entered_again, entered_place, found, found_place}
use Rattle.script_text.proofs.names.NameList.note.Goals as goal

pub add-requires-clause-new : goal.add-requires-clause-new
add-requires-clause-new c =
    let w = c.args.name.now in
    ap (λ l. contains_name l w) (sym c.self.view_is) ∙ found c.self.inside.names w ∙ ap is_some (sym (c.self.invariant w) ∙ sym c.get.ensures ∙ c.in-None.is)

pub returns-in-Some-clause-names : goal.returns-in-Some-clause-names
returns-in-Some-clause-names c =
    let w = c.args.name.now in
    let there : contains_name c.args.self.now w ≡ true =
    ap (λ l. contains_name l w) (sym c.self.view_is) ∙ found c.self.inside.names w ∙ ap is_some (sym (c.self.invariant w) ∙ sym c.get.ensures ∙ c.in-Some.is) in
    sym (entered_again c.args.self.now w there)

pub returns-in-Some-clause-number : goal.returns-in-Some-clause-number
returns-in-Some-clause-number c =
    let w = c.args.name.now in
    let at : place_in c.self.inside.names w ≡ Some c.in-Some.number = sym (c.self.invariant w) ∙ sym c.get.ensures ∙ c.in-Some.is in
    let there : contains_name c.args.self.now w ≡ true = ap (λ l. contains_name l w) (sym c.self.view_is) ∙ found c.self.inside.names w ∙ ap is_some at in
    sym (found_place c.self.inside.names w c.in-Some.number at) ∙ ap (λ l. place l w) (c.self.view_is ∙ sym (entered_again c.args.self.now w there))

pub returns-in-None-clause-number : goal.returns-in-None-clause-number
returns-in-None-clause-number c =
    let w = c.args.name.now in
    let new : contains_name c.args.self.now w ≡ false =
    ap (λ l. contains_name l w) (sym c.self.view_is) ∙ found c.self.inside.names w ∙ ap is_some (sym (c.self.invariant w) ∙ sym c.get.ensures ∙ c.in-None.is) in
    subst (λ m. IfOk c.add.result (λ n. n ≡ m)) (sym (entered_place c.args.self.now w new)) c.add.ensures.number
