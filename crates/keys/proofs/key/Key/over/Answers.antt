use Rattle.keys.specs.Spelling.{numbers_in, spelt}
use Rattle.keys.specs.SpellingLaws.{reads_nothing}
use Rattle.std.proofs.Common.{ap, sym, ◌∙◌}
use Rattle.keys.proofs.key.Key.over.Goals as goal

pub invariant_of-result : goal.invariant_of-result
invariant_of-result c = c.clear.ensures.items ∙ ap spelt (sym (ap numbers_in c.clear.ensures.items ∙ reads_nothing))

pub returns : goal.returns
returns c = ap numbers_in c.clear.ensures.items ∙ reads_nothing
