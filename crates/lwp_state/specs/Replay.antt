-- What the state at a recorded line comes to, with all that it meets outside.
use Rattle.batch.specs.Parts.{content}
use Rattle.batch.specs.declared.part.Part.{Part}
use Rattle.lwp_serve.specs.Replaying.Found.{IsNotTold}
use Rattle.lwp_serve.specs.Replaying.Input.{recorded_in}
use Rattle.lwp_serve.specs.Replaying.Replay.{Holds, HoldsBad, HoldsNone, asked_of, most_read}
use Rattle.lwp_serve.specs.Replaying.Texts.{end_of, text_of}
use Rattle.lwp_serve.specs.declared.replaying.told.Told.{Told}
use Rattle.lwp_state.specs.Along.{IsLastWithin, lines_by, moment_of}
use Rattle.lwp_state.specs.Shown.{IsCut, IsStateOf, IsToldBy, IsWritten}
use Rattle.pod_runner.specs.declared.session.Took.{Took}
use Rattle.replay.specs.Recorded.{line_count}
use Rattle.replay.specs.Replayed.{Says}
use Rattle.replay.specs.declared.verdict.Verdict.{Verdict}
use Rattle.script_session.specs.Outcome.{outcome_of, status_of}
use Rattle.script_session.specs.Said.{IsUnread, Tells}
use Rattle.script_session.specs.SoFar.{setting_of}
use Rattle.script_session.specs.declared.session.Session.{Session}
use Rattle.script_session.specs.declared.session.SessionEnd.{SessionEnd}
use Rattle.script_session.specs.declared.session.SessionEnd.TheVariants as end
use Rattle.script_text.specs.Script.{proc_names}
use Rattle.script_text.specs.Spelling.{verdict}
use Rattle.script_text.specs.declared.script.Script.{Script}
use Rattle.std.specs.Prelude.{Bool, List, MatchBool, None, Ok, Option, Some, [], false, min, nat_le, nat_lt, ℕ, ◌≡◌, ◌⊎◌}
use Rattle.streams.specs.Limited.{IsReadUp, IsReadWithin}
use Rattle.streams.specs.Streams.{IsFaultless, IsFaulty, IsQuiet, Stream}

-- how many calls the session of a recorded trace may make
abbrev pub replayed_calls : ℕ
replayed_calls = 100000

-- how many of the recorded lines are asked for: as many as a number says, or all; each has its newline
abbrev pub lines_asked : Option ℕ → List ℕ → ℕ
lines_asked None recorded = line_count recorded
lines_asked (Some line) recorded = min line (line_count recorded)

-- a session ends so because one of the first n recorded lines is not that of a trace
abbrev pub differs_within : ℕ → SessionEnd → Bool
differs_within n (end.Differs line) = nat_le line n
differs_within n _ = false

-- it is told of the verdict
pub record IsVerdict (v : Verdict) (takes : List Took) (calls : ℕ) (told : Told) : Type 0 where
  pub ended : told.end ≡ end_of v
  pub text : told.text.items ≡ text_of v
  pub taken : told.taken ≡ takes
  pub made : told.turns ≡ calls

-- it is told of the state after the last step of the session whose lines all are among the first n; the trace is read to
-- its end where a line after these is among them
pub record IsStateAt (script : Script) (n : ℕ) (takes : List Took) (calls : ℕ) (told : Told) : Type 0 where
  pub ended : told.end ≡ end.Reported
  pub last : IsLastWithin (setting_of script) (proc_names script) n (moment_of takes calls)
      (moment_of told.taken told.turns)
  pub state : IsStateOf (nat_lt (lines_by (setting_of script) (proc_names script) (moment_of told.taken told.turns)) n)
      script told.taken told.turns told.text.items

-- Of a script and what was recorded, where the first n lines are asked for: there is a right verdict, and it is told if
-- one of these lines differs; else a state of its session is.
pub record IsFound (script : Script) (recorded : List ℕ) (n : ℕ) (told : Told) : Type 0 where
  pub verdict : Verdict
  pub takes : List Took
  pub calls : ℕ
  pub right : Says (asked_of script replayed_calls) recorded verdict takes calls
  pub shown : MatchBool (differs_within n (end_of verdict)) (IsVerdict verdict takes calls told)
      (IsStateAt script n takes calls told)

-- what comes of a script and what was recorded: what is found is written, or a write fails; or memory ran out, and
-- nothing was written
abbrev pub IsShown : Script → List ℕ → ℕ → Stream → Session → Type 0
IsShown script recorded n sink session =
    (session ≡ outcome_of end.NoMemory [] 0) × IsQuiet sink
    ⊎ ((told : Told) × IsFound script recorded n told
    × IsToldBy told.end told.taken told.turns told.text.items sink session)

-- what comes of an input in which a script lies here: that of the script; or it is none, and nothing was written
abbrev pub IsShownOf : Option ℕ → List ℕ → Part → Stream → Session → Type 0
IsShownOf line text part sink session =
    ((e : SessionEnd) × IsNotTold text part e × (session ≡ outcome_of e [] 0) × IsQuiet sink)
    ⊎ ((script : Script) × (verdict (content text part) ≡ Ok script)
    × IsShown script (recorded_in text part) (lines_asked line (recorded_in text part)) sink session)

-- the bytes are what is told of the script and the trace that the source holds, and the session that ends so tells of
-- the same takes and calls
pub record IsReplayed (line : Option ℕ) (source : Stream) (session : Session)
    (e : SessionEnd) (text : List ℕ) : Type 0 where
  pub faultless : IsFaultless source
  pub up : IsReadUp most_read source.old source.new
  pub script : Script
  pub recorded : List ℕ
  pub holds : Holds source.old script recorded
  pub told : Told
  pub found : IsFound script recorded (lines_asked line recorded) told
  pub ended : e ≡ told.end
  pub said : text ≡ told.text.items
  pub taken : Tells session told.taken
  pub made : session.turns ≡ told.turns

-- what each end says: a text was written, or the first part of it; or nothing was, and there is a cause
abbrev pub ReplaySays : Option ℕ → Stream → Stream → Session → SessionEnd → Type 0
ReplaySays line source sink session end.Reported = IsWritten (IsReplayed line source session end.Reported) sink
ReplaySays line source sink session (end.Differs at) = IsWritten (IsReplayed line source session (end.Differs at)) sink
ReplaySays line source sink session end.WriteFault = (e : SessionEnd) × IsCut (IsReplayed line source session e) sink
ReplaySays line source sink session end.ReadFault = IsFaulty source
    × IsReadWithin most_read source.old source.new × IsUnread sink session
ReplaySays line source sink session (end.Input part) = (part ≡ 0) × IsFaultless source
    × IsReadUp most_read source.old source.new × HoldsNone source.old × IsUnread sink session
ReplaySays line source sink session (end.Script at why) = IsFaultless source
    × IsReadUp most_read source.old source.new × HoldsBad source.old at why × IsUnread sink session
ReplaySays line source sink session end.NoMemory = IsFaultless source
    × IsReadWithin most_read source.old source.new × IsUnread sink session
ReplaySays line source sink session _ = ⊥

-- what a session of `replay` says, where the first so many recorded lines are asked for, or all
pub record IsStateInReplay (line : Option ℕ) (source sink : Stream) (session : Session) : Type 0 where
  pub status : session.status ≡ status_of session.end
  pub says : ReplaySays line source sink session session.end
