-- What holds of all printed scripts.
use Rattle.script_printer.specs.Printing.{text_of_script}
use Rattle.script_text.specs.Grammar.{Spells}
use Rattle.script_text.specs.declared.script.Script.{Script}
use Rattle.std.specs.Prelude.{List, ℕ}

-- the printed text of a script that some text spells is a spelling of it too
abbrev pub PrintsBack : Script → Type 0
PrintsBack s = (text : List ℕ) → Spells text s → Spells (text_of_script s) s
