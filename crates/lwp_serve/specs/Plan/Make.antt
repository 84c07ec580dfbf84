-- What `make` comes to: a script is made and its session is run, and five lines sum it up.
use Rattle.script_session.specs.Outcome.{end_of, status_of}
use Rattle.lwp_serve.specs.Plan.Plan.{WantsNothing}
use Rattle.script_session.specs.SoFar.{AreDue, IsHistory}
use Rattle.script_session.specs.Said.{IsUnread, Says, Tells}
use Rattle.streams.specs.Streams.{IsFaultless, IsFaulty, IsQuiet, Stream}
use Rattle.streams.specs.Writing.{AppendsPart}
use Rattle.lwp_serve.specs.Plan.Planned.{calls_of, halt_of, takes_of, trace_of}
use Rattle.script_session.specs.declared.session.Session.{Session}
use Rattle.script_session.specs.declared.session.SessionEnd.{SessionEnd}
use Rattle.script_session.specs.declared.session.SessionEnd.TheVariants as end
use Rattle.lwp_types.specs.Streams.{after_append}
use Rattle.lwp_types.specs.declared.call.Line.{Line}
use Rattle.pod_runner.specs.declared.session.Took.{Took}
use Rattle.lwp_serve.specs.Maker.Made.{made_script}
use Rattle.lwp_serve.specs.Maker.Summary.{summary_text}
use Rattle.lwp_serve.specs.declared.maker.summary.Summary.{Summary}
use Rattle.script_text.specs.Script.{lines_posted}
use Rattle.trace_text.specs.declared.ends.Halt.{Halt}
use Rattle.trace_text.specs.declared.ends.Halt.TheVariants as halts
use Rattle.script_text.specs.declared.script.Script.{Script}
use Rattle.std.specs.Prelude.{Bool, List, None, Option, Some, false, length, true, ℕ, ◌++◌, ◌-◌, ◌≡◌, ◌≤◌, ◌⊎◌}

-- how many calls are allowed
abbrev pub make_turns : ℕ
make_turns = 1000000

-- ---- the summary

-- the status of a session that has ended so
abbrev pub status_by : Option Halt → ℕ
status_by None = 0
status_by (Some halt) = status_of (end_of halt)

-- how many of the lines posted are taken
abbrev pub count_taken : Script → ℕ
count_taken script = length (takes_of script make_turns)

-- how many are not
abbrev pub count_left : Script → ℕ
count_left script = length (lines_posted script) - count_taken script

-- what is told of the session of a script, whose text is this
abbrev pub summary_by : List ℕ → Script → Summary
summary_by text script = record {
  script = length text;
  calls = calls_of script make_turns;
  taken = count_taken script;
  left = count_left script;
  trace = length (trace_of script make_turns);
  status = status_by (halt_of script make_turns);
}

-- the five lines of the session of a script, which the text that is made spells
abbrev pub summary_of : ℕ → ℕ → ℕ → Script → List ℕ
summary_of seed threads lines script = summary_text (summary_by (made_script seed threads lines) script)

-- what is told of a session to its end, by what it says of itself; the script's text and the trace have these lengths
abbrev pub summary_at_end : Script → ℕ → Session → ℕ → Summary
summary_at_end script text session trace = record {
  script = text;
  calls = session.turns;
  taken = length session.taken;
  left = length script.posts - length session.taken;
  trace = trace;
  status = session.status;
}

-- ---- what a session says

-- the session of a script has come to its end
abbrev pub is_over : SessionEnd → Bool
is_over (end.Ended status) = true
is_over end.Usage = false
is_over end.ReadFault = false
is_over end.WriteFault = false
is_over (end.Script line reason) = false
is_over end.Stuck = true
is_over end.Spent = true
is_over end.NoMemory = false
is_over (end.Input part) = false
is_over end.Reported = false
is_over end.Same = false
is_over (end.Differs line) = false

-- it tells of the whole session of the script: of all its calls and takes. Each of them was due; of each client, the
-- lines taken are its first, in order, and then come those left.
pub record TellsAll (script : Script) (session : Session) : Type 0 where
  pub calls : session.turns ≡ calls_of script make_turns
  pub taken : Tells session (takes_of script make_turns)
  pub due : AreDue script (takes_of script make_turns) (calls_of script make_turns)
  pub left : List Line
  pub history : IsHistory script (takes_of script make_turns) left

-- it ended as that session does
pub record IsOver (script : Script) (session : Session) : Type 0 where
  pub halt : Halt
  pub halted : halt_of script make_turns ≡ Some halt
  pub ended : session.end ≡ end_of halt
  pub stuck : halt ≡ halts.Stuck → WantsNothing script make_turns

-- it tells of the first takes of that session, and of no more calls than that makes, and each was due
pub record TellsPart (script : Script) (session : Session) : Type 0 where
  pub takes : List Took
  pub taken : Tells session takes
  pub calls : session.turns ≤ calls_of script make_turns
  pub later : List Took
  pub first : takes_of script make_turns ≡ takes ++ later
  pub due : AreDue script takes session.turns
  pub left : List Line
  pub history : IsHistory script takes left

-- a session to its end, with its summary written
pub record IsSummedUp (summary : List ℕ) (script : Script) (sink : Stream) (session : Session) : Type 0 where
  pub written : sink.new ≡ after_append sink.old summary
  pub faultless : IsFaultless sink
  pub over : IsOver script session
  pub all : TellsAll script session

-- a session to its end, where the summary was cut off by a write that failed
pub record IsCutOff (summary : List ℕ) (script : Script) (sink : Stream) (session : Session) : Type 0 where
  pub written : AppendsPart sink.old sink.new summary
  pub faulty : IsFaulty sink
  pub all : TellsAll script session

-- What each end says. Nothing is written where it is out of memory. That is also the answer to a trace of 2 ^ 64 bytes
-- or more, which can't be counted.
abbrev pub MakeSays : List ℕ → Script → Stream → Session → SessionEnd → Type 0
MakeSays summary script sink session (end.Ended status) = IsSummedUp summary script sink session
MakeSays summary script sink session end.Stuck = IsSummedUp summary script sink session
MakeSays summary script sink session end.Spent = IsSummedUp summary script sink session
MakeSays summary script sink session end.WriteFault = IsCutOff summary script sink session
MakeSays summary script sink session end.NoMemory = IsUnread sink session ⊎ (IsQuiet sink × TellsPart script session)
MakeSays summary script sink session _ = ⊥

-- what a session of `make` says: the text that is made spells a script, and this holds of it
pub record IsMake (seed threads lines : ℕ) (sink : Stream) (session : Session) : Type 0 where
  pub status : session.status ≡ status_of session.end
  pub says : Says (Some (made_script seed threads lines))
      (λ script. MakeSays (summary_of seed threads lines script) script sink session session.end)
