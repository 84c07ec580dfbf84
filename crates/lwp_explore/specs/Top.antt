-- What the program does, by its words.
use Rattle.lwp_explore.specs.Ends.{EndsSay}
use Rattle.lwp_explore.specs.LineSaid.{LineSays}
use Rattle.lwp_explore.specs.Sessions.{world_of}
use Rattle.lwp_explore.specs.TraceSaid.{TraceSays}
use Rattle.lwp_explore.specs.declared.ending.Ending.{Ending}
use Rattle.lwp_explore.specs.declared.ending.Ending.TheVariants as ending
use Rattle.lwp_explore.specs.declared.words.Command.{Command}
use Rattle.lwp_explore.specs.declared.words.Command.TheVariants as command
use Rattle.lwp_types.specs.Streams.{after_append}
use Rattle.script_session.specs.Said.{IsReadOut, Refuses, SourceSays, most_read}
use Rattle.script_session.specs.declared.session.SessionEnd.{SessionEnd}
use Rattle.script_session.specs.declared.session.SessionEnd.TheVariants as end
use Rattle.script_text.specs.Script.{proc_names}
use Rattle.script_text.specs.declared.script.Script.{Script}
use Rattle.std.specs.Prelude.{List, None, Option, Some, [], ℕ, ◌≡◌, ◌∷◌}
use Rattle.streams.specs.Limited.{IsReadUp, IsReadWithin}
use Rattle.streams.specs.Streams.{IsFaultless, IsFaulty, IsQuiet, Stream}
use Rattle.streams.specs.Writing.{AppendsPart}

-- the second word
abbrev pub second_word : List (List ℕ) → List ℕ
second_word [] = []
second_word (word ∷ []) = []
second_word (word ∷ second ∷ words) = second

-- the text of what is asked for with a script, and what that comes to; this line is looked for, if one is
abbrev pub Says : Command → List ℕ → Script → List ℕ → Ending → Type 0
Says (command.Ends cores) line script text e = EndsSay (world_of script) cores text e
Says (command.Trace kind cores) line script text e = TraceSays (world_of script) (proc_names script) cores kind text e
Says (command.Line cores) line script text e = LineSays (world_of script) (proc_names script) line cores text e

-- the text was written, all of it
abbrev pub IsWritten : (List ℕ → Type 0) → Stream → Type 0
IsWritten says sink = IsFaultless sink × ((text : List ℕ) × says text × (sink.new ≡ after_append sink.old text))

-- a write failed, and not all of it was written
abbrev pub IsCut : (List ℕ → Type 0) → Stream → Type 0
IsCut says sink = IsFaulty sink × ((text : List ℕ) × says text × AppendsPart sink.old sink.new text)

-- the text of what was found, of the script that the source held, was written
abbrev pub ToldAll : Command → List ℕ → Stream → Stream → Ending → Type 0
ToldAll asked line source sink e = IsReadOut source.old source.new
    × SourceSays source (λ script. IsWritten (λ text. Says asked line script text e) sink)

-- the first part of it was, and a write failed
abbrev pub ToldPart : Command → List ℕ → Stream → Stream → Type 0
ToldPart asked line source sink = IsReadOut source.old source.new
    × SourceSays source (λ script. IsCut (λ text. (e : Ending) × Says asked line script text e) sink)

-- what each other end says: there is no script, or there was no memory, and nothing was written; or a write failed
abbrev pub FaultSays : Command → List ℕ → Stream → Stream → SessionEnd → Type 0
FaultSays asked line source sink end.ReadFault = IsFaulty source × IsReadWithin most_read source.old source.new × IsQuiet sink
FaultSays asked line source sink (end.Script bad why) = IsFaultless source × IsReadUp most_read source.old source.new
    × Refuses source.old bad why × IsQuiet sink
FaultSays asked line source sink end.NoMemory = IsFaultless source × IsReadWithin most_read source.old source.new × IsQuiet sink
FaultSays asked line source sink end.WriteFault = ToldPart asked line source sink
FaultSays asked line source sink _ = ⊥

-- what each end says, where the words ask for this
abbrev pub EndSays : Command → List ℕ → Stream → Stream → Ending → Type 0
EndSays asked line source sink (ending.Other e) = FaultSays asked line source sink e
EndSays asked line source sink e = ToldAll asked line source sink e

-- what the program's words come to: what they ask for; or they are no command, and nothing was read or written
abbrev pub TopSays : Option Command → List (List ℕ) → Stream → Stream → Ending → Type 0
TopSays None words source sink e = (e ≡ ending.Other end.Usage) × IsQuiet source × IsQuiet sink
TopSays (Some asked) words source sink e = EndSays asked (second_word words) source sink e
