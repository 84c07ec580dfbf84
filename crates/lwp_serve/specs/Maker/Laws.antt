-- What holds of every text that is made.
use Rattle.std.specs.Prelude.{ℕ}
use Rattle.script_text.specs.Grammar.{Spells}
use Rattle.script_text.specs.declared.script.Script.{Script}
use Rattle.lwp_serve.specs.Maker.Made.{made_script}

-- the text that is made spells a script
abbrev pub MadeSpells : ℕ → ℕ → ℕ → Type 0
MadeSpells seed threads lines = (script : Script) × Spells (made_script seed threads lines) script
