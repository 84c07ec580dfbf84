-- What `answers` comes to, with all that it meets outside.
use Rattle.lwp_types.specs.Streams.{AppendsPrefix, after_append}
use Rattle.pod_runner.specs.Run.{AppendsCut}
use Rattle.pod_runner.specs.declared.session.Took.{Took}
use Rattle.lwp_serve.specs.Answers.Replies.{answers_after, answers_before, answers_of}
use Rattle.lwp_serve.specs.Plan.Plan.{IsPart, IsWhole}
use Rattle.script_session.specs.Outcome.{end_of, status_of}
use Rattle.script_session.specs.Said.{IsOf, IsUnread, Tells}
use Rattle.script_session.specs.declared.session.Session.{Session}
use Rattle.script_session.specs.declared.session.SessionEnd.{SessionEnd}
use Rattle.script_session.specs.declared.session.SessionEnd.TheVariants as end
use Rattle.script_text.specs.declared.script.Script.{Script}
use Rattle.std.specs.Prelude.{List, None, Option, ℕ, ◌≡◌, ◌⊎◌}
use Rattle.trace_text.specs.declared.ends.Halt.{Halt}
use Rattle.streams.specs.Streams.{IsFaultless, IsFaulty, Stream}

-- ---- the session is that of `plan`: its end, its calls and its takes are those of a plan whose trace goes where
-- nothing is told

-- it came to its end
abbrev pub IsPlannedWhole : ℕ → Script → List Took → ℕ → Halt → Type 0
IsPlannedWhole turns script takes calls halt = IsWhole turns script None None takes calls halt

-- it came some way
abbrev pub IsPlannedPart : ℕ → Script → List Took → ℕ → Type 0
IsPlannedPart turns script takes calls = IsPart turns script None None takes calls

-- ---- what was told before and is told now

-- a session to its end: all that the client is told was written
pub record IsTold (client turns : ℕ) (script : Script) (old new : Option (List ℕ))
    (takes : List Took) (calls : ℕ) (halt : Halt) : Type 0 where
  pub planned : IsPlannedWhole turns script takes calls halt
  pub written : new ≡ after_append old (answers_of client script turns)

-- a session as far as it came, where a write failed: what the client was told before the last call was written, and not
-- all of what it was told then
pub record IsCutOff (client turns : ℕ) (script : Script) (old new : Option (List ℕ))
    (takes : List Took) (calls : ℕ) : Type 0 where
  pub planned : IsPlannedPart turns script takes calls
  pub cut : AppendsCut old new (answers_before client script takes calls) (answers_after client script takes calls)
  pub first : AppendsPrefix old new (answers_of client script turns)

-- a session as far as it came, out of memory: the first part of what the client is told was written
pub record IsStopped (client turns : ℕ) (script : Script) (old new : Option (List ℕ))
    (takes : List Took) (calls : ℕ) : Type 0 where
  pub planned : IsPlannedPart turns script takes calls
  pub first : AppendsPrefix old new (answers_of client script turns)

-- ---- what each end says

abbrev pub IsToldWhole : ℕ → ℕ → Script → Stream → Session → Type 0
IsToldWhole client turns script sink session =
    IsFaultless sink
    × ((halt : Halt) × (takes : List Took) × (session.end ≡ end_of halt) × Tells session takes
    × IsTold client turns script sink.old sink.new takes session.turns halt)

abbrev pub IsToldCut : ℕ → ℕ → Script → Stream → Session → Type 0
IsToldCut client turns script sink session = (takes : List Took) × Tells session takes
    × IsCutOff client turns script sink.old sink.new takes session.turns

abbrev pub IsToldStopped : ℕ → ℕ → Script → Stream → Session → Type 0
IsToldStopped client turns script sink session = (takes : List Took) × Tells session takes
    × IsStopped client turns script sink.old sink.new takes session.turns

abbrev pub AnswersSay : ℕ → ℕ → Script → Stream → Session → SessionEnd → Type 0
AnswersSay client turns script sink session (end.Ended status) = IsToldWhole client turns script sink session
AnswersSay client turns script sink session end.Stuck = IsToldWhole client turns script sink session
AnswersSay client turns script sink session end.Spent = IsToldWhole client turns script sink session
AnswersSay client turns script sink session end.WriteFault = IsFaulty sink × IsToldCut client turns script sink session
AnswersSay client turns script sink session end.NoMemory = IsFaultless sink
    × (IsUnread sink session ⊎ IsToldStopped client turns script sink session)
AnswersSay client turns script sink session _ = ⊥

-- what a session says of a script that was read
pub record IsAnswered (client turns : ℕ) (script : Script) (sink : Stream) (session : Session) : Type 0 where
  pub status : session.status ≡ status_of session.end
  pub says : AnswersSay client turns script sink session session.end

-- what a session of `answers` says, of this client and with so many turns allowed
abbrev pub IsAnswers : ℕ → ℕ → Stream → Stream → Session → Type 0
IsAnswers client turns source sink session =
    IsOf (λ script. AnswersSay client turns script sink session) source sink session
