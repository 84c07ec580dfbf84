use Rattle.std.proofs.Common.{ap, is_some, sym, ◌∙◌}
use Rattle.script_text.specs.Meaning.{contains_name}
use Rattle.script_text.proofs.NameLaws.{found}
use Rattle.script_text.proofs.names.NameList.contains.Goals as goal

pub returns : goal.returns
returns c =
    let w = c.args.name.now in
    c.is_some.ensures ∙ ap is_some (c.get.ensures ∙ c.self.invariant w) ∙ sym (found c.self.inside.names w) ∙ ap (λ l. contains_name l w) c.self.view_is
