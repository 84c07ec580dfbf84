use Rattle.keys.specs.Spelling.{numbers_in, spelt}
use Rattle.keys.specs.SpellingLaws.{reads_after, reads_nothing, spells_after, spelt_one}
use Rattle.std.proofs.Common.{[], ap, sym, ◌++◌, ◌∙◌, ◌∷◌}
use Rattle.keys.proofs.key.Key.put_long.Goals as goal

pub invariant_of-self : goal.invariant_of-self
invariant_of-self c =
    let old = c.self.inside.bytes.items in
    let number = c.args.number in
    spells_after old (number ∷ []) _ c.self.invariant (c.in-Ok.ensures ∙ ap (λ l. old ++ l) (sym (spelt_one number)))

pub invariant_of-self-in_default : goal.invariant_of-self-in_default
invariant_of-self-in_default c = c.clear.ensures.items ∙ ap spelt (sym (ap numbers_in c.clear.ensures.items ∙ reads_nothing))

pub returns : goal.returns
returns c =
    let old = c.self.inside.bytes.items in
    let number = c.args.number in
    reads_after old (number ∷ []) _ c.self.invariant (c.in-Ok.ensures ∙ ap (λ l. old ++ l) (sym (spelt_one number)))
    ∙ ap (λ l. l ++ number ∷ []) c.self.view_is
