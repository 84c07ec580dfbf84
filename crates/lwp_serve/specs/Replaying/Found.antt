-- What the steps of a replay say: an input is read, or none is; of an input there is a verdict, or there is none.
use Rattle.batch.specs.Parts.{content}
use Rattle.batch.specs.declared.part.Part.{Part}
use Rattle.pod_runner.specs.declared.session.Took.{Took}
use Rattle.replay.specs.Replayed.{Says}
use Rattle.replay.specs.declared.verdict.Verdict.{Verdict}
use Rattle.lwp_serve.specs.Replaying.Input.{recorded_in, script_in}
use Rattle.lwp_serve.specs.Replaying.Replay.{HoldsNone, asked_of, most_read}
use Rattle.lwp_serve.specs.Replaying.Texts.{end_of, text_of}
use Rattle.script_session.specs.declared.session.SessionEnd.{SessionEnd}
use Rattle.script_session.specs.declared.session.SessionEnd.TheVariants as end
use Rattle.script_text.specs.Spelling.{verdict}
use Rattle.script_text.specs.declared.script.Script.{Script}
use Rattle.std.specs.Prelude.{Err, List, None, Ok, Option, Some, ℕ, ◌≡◌}
use Rattle.streams.specs.Limited.{IsReadUp, IsReadWithin}
use Rattle.streams.specs.Streams.{IsFaultless, IsFaulty, Stream}

-- this text was read, and its script lies here; where the source tells, it is all that there was
abbrev pub IsInput : Option (List ℕ) → List ℕ → Part → Type 0
IsInput None text part = script_in text ≡ Some part
IsInput (Some told) text part = (told ≡ text) × (script_in text ≡ Some part)

-- no input was read, and a session ends so
abbrev pub IsNoInput : Stream → SessionEnd → Type 0
IsNoInput source end.ReadFault = IsFaulty source × IsReadWithin most_read source.old source.new
IsNoInput source end.NoMemory = IsFaultless source × IsReadWithin most_read source.old source.new
IsNoInput source (end.Input part) = (part ≡ 0) × IsFaultless source
    × IsReadUp most_read source.old source.new × HoldsNone source.old
IsNoInput source _ = ⊥

-- this end and this text tell of a right verdict on recorded bytes, with these takes and calls
pub record IsTold (turns : ℕ) (script : Script) (recorded : List ℕ) (e : SessionEnd) (text : List ℕ)
    (takes : List Took) (calls : ℕ) : Type 0 where
  pub verdict : Verdict
  pub right : Says (asked_of script turns) recorded verdict takes calls
  pub ended : e ≡ end_of verdict
  pub told : text ≡ text_of verdict

-- they tell of a right verdict on the script and the recorded bytes of a text
pub record IsToldOf (turns : ℕ) (text : List ℕ) (part : Part) (e : SessionEnd) (said : List ℕ)
    (takes : List Took) (calls : ℕ) : Type 0 where
  pub script : Script
  pub spelt : verdict (content text part) ≡ Ok script
  pub told : IsTold turns script (recorded_in text part) e said takes calls

-- there is no verdict on the recorded bytes of a text, and a session ends so
abbrev pub IsNotTold : List ℕ → Part → SessionEnd → Type 0
IsNotTold text part end.NoMemory = Unit {0}
IsNotTold text part (end.Script line why) = verdict (content text part) ≡ Err (line, why)
IsNotTold text part _ = ⊥
