-- What is told of recorded bytes next to a script.
use Rattle.c_sessions.specs.Planned.{refusal}
use Rattle.c_sessions.specs.Records.{session_record}
use Rattle.c_sessions.specs.declared.outcome.Outcome.{Outcome}
use Rattle.c_sessions.specs.declared.outcome.SessionRecord.{SessionRecord}
use Rattle.lwp_serve.specs.Replaying.Replay.{asked_of}
use Rattle.lwp_serve.specs.Replaying.Texts.{end_of, text_of}
use Rattle.pod_runner.specs.declared.session.Took.{Took}
use Rattle.replay.specs.Replayed.{Says}
use Rattle.replay.specs.declared.verdict.Verdict.{Verdict}
use Rattle.script_session.specs.Texts.{fault_text}
use Rattle.script_session.specs.declared.session.SessionEnd.TheVariants as end
use Rattle.script_text.specs.declared.reason.Reason.{Reason}
use Rattle.script_text.specs.declared.script.Script.{Script}
use Rattle.std.specs.Prelude.{Err, List, Ok, Result, length, take, ℕ, ◌≡◌}

-- the text and the record tell of a right verdict on recorded bytes: whether they are a trace of the script, of at most
-- so many calls, or which line is the first that differs, and how many calls and takes come before it
pub record TellsRecorded (script : Script) (recorded : List ℕ) (calls : ℕ) (text : List ℕ) (told : SessionRecord) : Type 0 where
  pub verdict : Verdict
  pub takes : List Took
  pub right : Says (asked_of script calls) recorded verdict takes told.calls
  pub text_is : text ≡ text_of verdict
  pub numbers : told ≡ session_record (end_of verdict) told.calls (length takes)

-- the text and the record tell so of the script that bytes spell, or why they spell none
abbrev pub ReplaySays : Result Script (ℕ × Reason) → List ℕ → ℕ → List ℕ → SessionRecord → Type 0
ReplaySays (Ok script) recorded calls text told = TellsRecorded script recorded calls text told
ReplaySays (Err bad) recorded calls text told = (text ≡ fault_text (end.Script bad.0 bad.1)) × (told ≡ refusal bad.0 bad.1)

-- an outcome has the first bytes of a text, and its length
abbrev pub HasFront : ℕ → List ℕ → Outcome → Type 0
HasFront room text told = (told.front.items ≡ take room text) × (told.len ≡ length text)

-- the outcome is that of a script and recorded bytes
abbrev pub TellsVerdict : Script → List ℕ → ℕ → ℕ → Outcome → Type 0
TellsVerdict script recorded calls room told =
    (text : List ℕ) × HasFront room text told × TellsRecorded script recorded calls text told.record

-- the outcome is that of the script that bytes spell, or says why they spell none
abbrev pub ReplayTells : Result Script (ℕ × Reason) → List ℕ → ℕ → ℕ → Outcome → Type 0
ReplayTells v recorded calls room told =
    (text : List ℕ) × HasFront room text told × ReplaySays v recorded calls text told.record
