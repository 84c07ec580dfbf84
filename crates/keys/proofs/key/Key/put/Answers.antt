use Rattle.keys.specs.SpellingLaws.{reads_after, spells_after, spelt_plain}
use Rattle.std.proofs.Common.{[], ap, sym, ◌++◌, ◌∙◌, ◌∷◌}
use Rattle.keys.proofs.key.Key.put.Goals as goal

pub invariant_of-self-then-number-lt128 : goal.invariant_of-self-then-number-lt128
invariant_of-self-then-number-lt128 c =
    let old = c.self.inside.bytes.items in
    let number = c.args.number in
    spells_after old (number ∷ []) _ c.self.invariant
    (c.in_ok-push.ensures.items ∙ ap (λ l. old ++ l) (sym (spelt_plain (number ∷ []) (c.if-number-lt128.true, tt))))

pub returns-then-number-lt128 : goal.returns-then-number-lt128
returns-then-number-lt128 c =
    let old = c.self.inside.bytes.items in
    let number = c.args.number in
    reads_after old (number ∷ []) _ c.self.invariant
    (c.in_ok-push.ensures.items ∙ ap (λ l. old ++ l) (sym (spelt_plain (number ∷ []) (c.if-number-lt128.true, tt))))
    ∙ ap (λ l. l ++ number ∷ []) c.self.view_is
