use Rattle.std.proofs.Common.{Some, ap, false, subst, sym, ◌∙◌, ◌≡◌}
use Rattle.script_text.specs.Meaning.{contains_name}
use Rattle.script_text.specs.Parts.{IsIndexed}
use Rattle.script_text.proofs.NameLaws.{back_indexed, put_indexed}
use Rattle.script_text.proofs.names.NameList.add.Goals as goal

pub invariant_of-self-in-Ok : goal.invariant_of-self-in-Ok
invariant_of-self-in-Ok c =
    let w = c.args.name.now in
    let names = c.self.inside.names in
    let new : contains_name names w ≡ false = ap (λ l. contains_name l w) c.self.view_is ∙ c.requires.new in
    subst (λ l. IsIndexed l c.put.new.self) (sym c.in-Ok.ensures.ok)
    (put_indexed names w c.self.inside.index c.put.new.self c.in_ok-number.number c.self.invariant new
    (c.in_ok-number.ensures.value ∙ c.len.ensures) c.in_ok-put.ensures.ok)

pub invariant_of-self-in_default : goal.invariant_of-self-in_default
invariant_of-self-in_default c =
    let w = c.args.name.now in
    let names = c.self.inside.names in
    let new : contains_name names w ≡ false = ap (λ l. contains_name l w) c.self.view_is ∙ c.requires.new in
    subst (λ l. IsIndexed l c.take.new.self) (sym c.in_default.ensures.err)
    (back_indexed names w c.self.inside.index c.put.new.self c.take.new.self (Some c.in_ok-number.number) c.self.invariant new
    c.in_ok-put.ensures.ok c.take.ensures)
