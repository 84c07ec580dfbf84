-- What `replay` comes to, with all that it meets outside.
use Rattle.batch.specs.Parts.{content}
use Rattle.batch.specs.declared.part.Part.{Part}
use Rattle.lwp_types.specs.Streams.{after_append}
use Rattle.pod_runner.specs.declared.session.Took.{Took}
use Rattle.replay.specs.Asked.{Asked}
use Rattle.replay.specs.Replayed.{Says}
use Rattle.replay.specs.declared.verdict.Verdict.{Verdict}
use Rattle.lwp_serve.specs.Replaying.Input.{recorded_in, script_in}
use Rattle.lwp_serve.specs.Replaying.Texts.{end_of, text_of}
use Rattle.script_body.specs.Bodies.{bodies_of, body_next}
use Rattle.script_body.specs.declared.thread_body.ThreadBody.{ThreadBody}
use Rattle.replay.specs.Compared.{asked_for}
use Rattle.script_session.specs.Outcome.{status_of}
use Rattle.script_session.specs.Said.{IsUnread, Tells}
use Rattle.script_session.specs.SoFar.{opening_names}
use Rattle.script_session.specs.declared.session.Session.{Session}
use Rattle.script_session.specs.declared.session.SessionEnd.{SessionEnd}
use Rattle.script_session.specs.declared.session.SessionEnd.TheVariants as end
use Rattle.script_text.specs.Script.{proc_names}
use Rattle.script_text.specs.Spelling.{verdict}
use Rattle.script_text.specs.declared.reason.Reason.{Reason}
use Rattle.script_text.specs.declared.script.Script.{Script}
use Rattle.std.specs.Prelude.{Err, List, None, Ok, Option, Some, ℕ, ◌≡◌}
use Rattle.streams.specs.Limited.{IsReadUp, IsReadWithin}
use Rattle.streams.specs.Streams.{IsFaultless, IsFaulty, Stream}
use Rattle.streams.specs.Writing.{AppendsPart}

-- how many bytes of an input are read: all that it may have, and one more
abbrev pub most_read : ℕ
most_read = 268435457

-- the sessions of a script that its recorded trace is compared with: of the script's own program and names, whatever
-- the order of their takes, and of at most so many calls
abbrev pub asked_of : Script → ℕ → Asked ThreadBody
asked_of script turns = asked_for body_next bodies_of proc_names script script (opening_names script) turns

-- ---- what there was to read

-- what the source had left is the input of this script and of these recorded bytes, if it tells
abbrev pub Holds : Option (List ℕ) → Script → List ℕ → Type 0
Holds None script recorded = Unit {0}
Holds (Some told) script recorded = (part : Part) × (script_in told ≡ Some part)
    × (verdict (content told part) ≡ Ok script) × (recorded ≡ recorded_in told part)

-- it is an input, but its script is none: this is the first bad line, and why
abbrev pub HoldsBad : Option (List ℕ) → ℕ → Reason → Type 0
HoldsBad None line why = Unit {0}
HoldsBad (Some told) line why = (part : Part) × (script_in told ≡ Some part)
    × (verdict (content told part) ≡ Err (line, why))

-- it is no input
abbrev pub HoldsNone : Option (List ℕ) → Type 0
HoldsNone None = Unit {0}
HoldsNone (Some told) = script_in told ≡ None

-- ---- what came of it

-- A verdict on the recorded bytes was found, which is right, and this text and this end tell of it. The session tells
-- of the takes and calls of the verdict.
pub record IsFound (turns : ℕ) (source : Stream) (session : Session) (e : SessionEnd) (text : List ℕ) : Type 0 where
  pub faultless : IsFaultless source
  pub up : IsReadUp most_read source.old source.new
  pub script : Script
  pub recorded : List ℕ
  pub holds : Holds source.old script recorded
  pub verdict : Verdict
  pub takes : List Took
  pub right : Says (asked_of script turns) recorded verdict takes session.turns
  pub tells : Tells session takes
  pub ended : e ≡ end_of verdict
  pub told : text ≡ text_of verdict

-- all of it was written
abbrev pub IsWritten : ℕ → Stream → Stream → Session → SessionEnd → Type 0
IsWritten turns source sink session e = IsFaultless sink
    × ((text : List ℕ) × IsFound turns source session e text × (sink.new ≡ after_append sink.old text))

-- a write failed, and not all of it was written
abbrev pub IsCut : ℕ → Stream → Stream → Session → Type 0
IsCut turns source sink session =
    IsFaulty sink
    × ((e : SessionEnd) × (text : List ℕ) × IsFound turns source session e text
    × AppendsPart sink.old sink.new text)

-- what each end says: that the recorded bytes are a trace, or from which line on they differ; or what was in the way
abbrev pub ReplaySays : ℕ → Stream → Stream → Session → SessionEnd → Type 0
ReplaySays turns source sink session end.ReadFault = IsFaulty source
    × IsReadWithin most_read source.old source.new × IsUnread sink session
ReplaySays turns source sink session (end.Input part) =
    (part ≡ 0) × IsFaultless source × IsReadUp most_read source.old source.new
    × HoldsNone source.old × IsUnread sink session
ReplaySays turns source sink session (end.Script line why) =
    IsFaultless source × IsReadUp most_read source.old source.new × HoldsBad source.old line why × IsUnread sink session
ReplaySays turns source sink session end.NoMemory = IsFaultless source
    × IsReadWithin most_read source.old source.new × IsUnread sink session
ReplaySays turns source sink session end.Same = IsWritten turns source sink session end.Same
ReplaySays turns source sink session (end.Differs line) = IsWritten turns source sink session (end.Differs line)
ReplaySays turns source sink session end.WriteFault = IsCut turns source sink session
ReplaySays turns source sink session _ = ⊥

-- what a session of `replay` says, with so many calls allowed
pub record IsReplay (turns : ℕ) (source sink : Stream) (session : Session) : Type 0 where
  pub status : session.status ≡ status_of session.end
  pub says : ReplaySays turns source sink session session.end
