-- How what is wrong in a script is written.
use Rattle.script_advice.specs.declared.texts.Format.{Format}
use Rattle.script_advice.specs.declared.texts.Format.TheVariants.{Json, Plain}
use Rattle.std.specs.Prelude.{Bool, if◌then◌else◌}

-- for programs or for readers
abbrev pub format_of : Bool → Format
format_of json = if json then Json else Plain
