-- What holds of all lines.
use Rattle.std.specs.Prelude.{◌≡◌, ◌↔◌, ℕ, List, Some}
use Rattle.script_lines.specs.Phrase.{Phrase}
use Rattle.script_lines.specs.Line.{phrase_text, IsLine}
use Rattle.script_lines.specs.Reading.{phrase_at}

-- a line says a phrase exactly where it is the text of that phrase, whose slots fit its row
abbrev pub IsSaid : List ℕ → Phrase → Type 0
IsSaid line p = (phrase_at line ≡ Some p) ↔ (IsLine p × (line ≡ phrase_text p))
