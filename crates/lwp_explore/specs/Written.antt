-- What comes of a text that is written, and of a script.
use Rattle.lwp_explore.specs.Top.{Says}
use Rattle.lwp_explore.specs.declared.ending.Ending.{Ending}
use Rattle.lwp_explore.specs.declared.ending.Ending.TheVariants as ending
use Rattle.lwp_explore.specs.declared.words.Command.{Command}
use Rattle.lwp_types.specs.Streams.{after_append}
use Rattle.script_session.specs.declared.session.SessionEnd.TheVariants as end
use Rattle.script_text.specs.declared.script.Script.{Script}
use Rattle.std.specs.Prelude.{List, ℕ, ◌≡◌, ◌⊎◌}
use Rattle.streams.specs.Streams.{IsFaultless, IsFaulty, IsQuiet, Stream}
use Rattle.streams.specs.Writing.{AppendsPart}

-- all of a text was written, and it ends so; or a write failed
abbrev pub WriteSays : List ℕ → Ending → Stream → Ending → Type 0
WriteSays text e sink result =
    (result ≡ e) × IsFaultless sink × (sink.new ≡ after_append sink.old text)
    ⊎ (result ≡ ending.Other end.WriteFault) × IsFaulty sink × AppendsPart sink.old sink.new text

-- what is asked for with a script was written, or a write failed; or there was no memory, and nothing was written
abbrev pub ScriptSays : Command → List ℕ → Script → Stream → Ending → Type 0
ScriptSays asked line script sink result =
    (result ≡ ending.Other end.NoMemory) × IsQuiet sink
    ⊎ ((text : List ℕ) × (e : Ending) × Says asked line script text e × WriteSays text e sink result)
