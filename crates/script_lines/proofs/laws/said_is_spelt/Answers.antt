use Rattle.std.proofs.Common.{Some, ap, ◌∙◌}
use Rattle.script_lines.specs.Phrase.{Phrase}
use Rattle.script_lines.specs.Reading.{phrase_at}
use Rattle.script_lines.proofs.PhraseLaws.{phrase_found, phrase_again, phrase_needed}
use Rattle.script_lines.proofs.laws.said_is_spelt.Goals as goal

pub returns : goal.returns
returns c = λ line p. (
  λ e. (((phrase_found line p e).0, phrase_needed line p e), (phrase_found line p e).1),
  λ h. ap phrase_at h.1 ∙ phrase_again p h.0.0 ∙ ap (λ (q : Phrase). Some q) h.0.1,
)
