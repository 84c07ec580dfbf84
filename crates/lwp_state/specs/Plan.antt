-- What the state after a plan comes to, with all that it meets outside.
use Rattle.lwp_serve.specs.Plan.Planned.{calls_of, takes_of}
use Rattle.lwp_state.specs.Shown.{IsCut, IsStateOf, IsToldBy, IsWritten}
use Rattle.script_session.specs.Outcome.{outcome_of, status_of}
use Rattle.script_session.specs.Said.{IsReadOut, IsUnread, Refuses, SourceSays, Tells, most_read}
use Rattle.script_session.specs.declared.session.Session.{Session}
use Rattle.script_session.specs.declared.session.SessionEnd.{SessionEnd}
use Rattle.script_session.specs.declared.session.SessionEnd.TheVariants as end
use Rattle.script_text.specs.declared.script.Script.{Script}
use Rattle.std.specs.Prelude.{List, [], true, ℕ, ◌≡◌, ◌⊎◌}
use Rattle.streams.specs.Limited.{IsReadUp, IsReadWithin}
use Rattle.streams.specs.Streams.{IsFaultless, IsFaulty, IsQuiet, Stream}

-- the bytes are the state at the end of a plan of so many calls; and what is told of the session is that plan's
pub record IsPlanned (calls : ℕ) (script : Script) (session : Session) (text : List ℕ) : Type 0 where
  pub made : session.turns ≡ calls_of script calls
  pub taken : Tells session (takes_of script calls)
  pub state : IsStateOf true script (takes_of script calls) (calls_of script calls) text

-- what comes of a script: the state at the end of its plan is written, or a write fails; or memory ran out, and nothing
-- was written
abbrev pub IsShown : ℕ → Script → Stream → Session → Type 0
IsShown calls script sink session =
    (session ≡ outcome_of end.NoMemory [] 0) × IsQuiet sink
    ⊎ ((text : List ℕ) × IsStateOf true script (takes_of script calls) (calls_of script calls) text
    × IsToldBy end.Reported (takes_of script calls) (calls_of script calls) text sink session)

-- what each end says: the text was written, or the first part of it; or nothing was, and there is a cause
abbrev pub PlanSays : ℕ → Stream → Stream → Session → SessionEnd → Type 0
PlanSays calls source sink session end.Reported = IsReadOut source.old source.new
    × SourceSays source (λ script. IsWritten (IsPlanned calls script session) sink)
PlanSays calls source sink session end.WriteFault = IsReadOut source.old source.new
    × SourceSays source (λ script. IsCut (IsPlanned calls script session) sink)
PlanSays calls source sink session end.ReadFault = IsFaulty source
    × IsReadWithin most_read source.old source.new × IsUnread sink session
PlanSays calls source sink session (end.Script line why) = IsFaultless source
    × IsReadUp most_read source.old source.new × Refuses source.old line why × IsUnread sink session
PlanSays calls source sink session end.NoMemory = IsFaultless source
    × IsReadWithin most_read source.old source.new × IsUnread sink session
PlanSays calls source sink session _ = ⊥

-- what a session of `plan` says, with so many calls allowed
pub record IsStateAfterPlan (calls : ℕ) (source sink : Stream) (session : Session) : Type 0 where
  pub status : session.status ≡ status_of session.end
  pub says : PlanSays calls source sink session session.end
