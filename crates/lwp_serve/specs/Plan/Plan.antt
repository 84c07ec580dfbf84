-- What `plan` comes to, with all that it meets outside.
use Rattle.script_session.specs.SoFar.{AreDue, lines_after, lines_before, IsHistory}
use Rattle.script_session.specs.Said.{Tells, IsUnread, IsOf}
use Rattle.streams.specs.Streams.{IsFaultless, IsFaulty, Stream}
use Rattle.script_session.specs.Outcome.{end_of, status_of}
use Rattle.script_session.specs.History.{counts_from}
use Rattle.lwp_serve.specs.Plan.Planned.{calls_of, halt_of, plan_of, takes_of, trace_of}
use Rattle.script_session.specs.declared.session.Session.{Session}
use Rattle.script_session.specs.declared.session.SessionEnd.{SessionEnd}
use Rattle.script_session.specs.declared.session.SessionEnd.TheVariants as end
use Rattle.lwp_types.specs.Streams.{AppendsPrefix, after_append}
use Rattle.trace_text.specs.Lines.{end_text}
use Rattle.trace_text.specs.declared.ends.Halt.{Halt}
use Rattle.trace_text.specs.declared.ends.Halt.TheVariants as halts
use Rattle.script_text.specs.declared.script.Script.{Script}
use Rattle.lwp_types.specs.declared.call.Line.{Line}
use Rattle.pod_runner.specs.Over.{is_wanted}
use Rattle.pod_runner.specs.Run.{AppendsCut}
use Rattle.pod_runner.specs.declared.session.Took.{Took}
use Rattle.std.specs.Prelude.{List, Option, Some, false, ℕ, ◌++◌, ◌≡◌, ◌≤◌, ◌⊎◌}

-- no event that can be delivered has a line left
abbrev pub WantsNothing : Script → ℕ → Type 0
WantsNothing script turns = let plan = plan_of script turns in is_wanted plan.session.live.pod plan.left ≡ false

-- What was told before and is told now: the session of a script, to its end. Its whole trace was written; so many calls
-- were made, and these lines were taken, as soon as they could be, each when it was due. The trace is that of a session
-- with these takes and calls, with its end and how many lines of each client are left.
pub record IsWhole (turns : ℕ) (script : Script) (old new : Option (List ℕ)) (takes : List Took)
    (calls : ℕ) (halt : Halt) : Type 0 where
  pub trace : new ≡ after_append old (trace_of script turns)
  pub halted : halt_of script turns ≡ Some halt
  pub made : calls ≡ calls_of script turns
  pub taken : takes ≡ takes_of script turns
  pub due : AreDue script takes calls
  pub left : List Line
  pub history : IsHistory script takes left
  pub printed : trace_of script turns
      ≡ lines_after script takes calls ++ end_text turns (counts_from 0 script.clients left) halt
  pub stuck : halt ≡ halts.Stuck → WantsNothing script turns

-- the first part of it: the first bytes of its trace were written, its first lines were taken, no more calls were made
-- than it makes, and each was due
pub record IsPart (turns : ℕ) (script : Script) (old new : Option (List ℕ)) (takes : List Took)
    (calls : ℕ) : Type 0 where
  pub trace : AppendsPrefix old new (trace_of script turns)
  pub made : calls ≤ calls_of script turns
  pub later : List Took
  pub taken : takes_of script turns ≡ takes ++ later
  pub due : AreDue script takes calls
  pub left : List Line
  pub history : IsHistory script takes left

-- it stopped between two steps: what was written are the lines of the takes and calls made
abbrev pub IsStopped : Script → Option (List ℕ) → Option (List ℕ) → List Took → ℕ → Type 0
IsStopped script old new takes calls = new ≡ after_append old (lines_after script takes calls)

-- it broke off after all its steps, and not all of the trace was written
pub record IsBrokenLast (turns : ℕ) (script : Script) (old new : Option (List ℕ))
    (takes : List Took) (calls : ℕ) : Type 0 where
  pub cut : AppendsCut old new (lines_after script takes calls) (trace_of script turns)
  pub made : calls ≡ calls_of script turns
  pub taken : takes ≡ takes_of script turns

-- it broke off in a write: the lines of all steps but the last were written, and not all of the last one's; or it broke
-- off after them
abbrev pub IsBroken : ℕ → Script → Option (List ℕ) → Option (List ℕ) → List Took → ℕ → Type 0
IsBroken turns script old new takes calls =
    AppendsCut old new (lines_before script takes calls) (lines_after script takes calls)
    ⊎ IsBrokenLast turns script old new takes calls

-- a session to its end
abbrev pub IsRun : ℕ → Script → Stream → Session → Type 0
IsRun turns script sink session =
    IsFaultless sink
    × ((halt : Halt) × (takes : List Took) × (session.end ≡ end_of halt) × Tells session takes
    × IsWhole turns script sink.old sink.new takes session.turns halt)

-- a session as far as it came, where a write failed
abbrev pub IsRunBroken : ℕ → Script → Stream → Session → Type 0
IsRunBroken turns script sink session = (takes : List Took) × Tells session takes
    × IsPart turns script sink.old sink.new takes session.turns
    × IsBroken turns script sink.old sink.new takes session.turns

-- a session as far as it came, out of memory
abbrev pub IsRunStopped : ℕ → Script → Stream → Session → Type 0
IsRunStopped turns script sink session = (takes : List Took) × Tells session takes
    × IsPart turns script sink.old sink.new takes session.turns
    × IsStopped script sink.old sink.new takes session.turns

-- what each end says of the session of a script that was read
abbrev pub RunSays : ℕ → Script → Stream → Session → SessionEnd → Type 0
RunSays turns script sink session (end.Ended status) = IsRun turns script sink session
RunSays turns script sink session end.Stuck = IsRun turns script sink session
RunSays turns script sink session end.Spent = IsRun turns script sink session
RunSays turns script sink session end.WriteFault = IsFaulty sink × IsRunBroken turns script sink session
RunSays turns script sink session end.NoMemory = IsFaultless sink
    × (IsUnread sink session ⊎ IsRunStopped turns script sink session)
RunSays turns script sink session _ = ⊥

-- what a session says of a script that was read
pub record IsPlayed (turns : ℕ) (script : Script) (sink : Stream) (session : Session) : Type 0 where
  pub status : session.status ≡ status_of session.end
  pub says : RunSays turns script sink session session.end

-- what a session of `plan` says, with so many turns allowed
abbrev pub IsPlan : ℕ → Stream → Stream → Session → Type 0
IsPlan turns source sink session = IsOf (λ script. RunSays turns script sink session) source sink session
