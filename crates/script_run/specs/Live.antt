-- What `run` comes to, with all that it meets outside: threads post the clients' lines while the session goes on.
use Rattle.event_gate.specs.Shelves.{full_shelves}
use Rattle.script_session.specs.History.{counts_from}
use Rattle.script_session.specs.Outcome.{end_of, status_of}
use Rattle.script_session.specs.SoFar.{AreDue, IsHistory, lines_after, lines_before, session_at}
use Rattle.script_session.specs.Said.{IsOf, IsUnread, Tells}
use Rattle.streams.specs.Streams.{IsFaultless, IsFaulty, Stream}
use Rattle.script_session.specs.declared.session.Session.{Session}
use Rattle.script_session.specs.declared.session.SessionEnd.{SessionEnd}
use Rattle.script_session.specs.declared.session.SessionEnd.TheVariants as end
use Rattle.lwp_types.specs.Streams.{after_append}
use Rattle.lwp_types.specs.declared.call.Line.{Line}
use Rattle.pod_runner.specs.Over.{is_wanted, over}
use Rattle.pod_runner.specs.Run.{AppendsCut}
use Rattle.pod_runner.specs.declared.session.Took.{Took}
use Rattle.script_run.specs.declared.live.LiveSession.{LiveSession}
use Rattle.script_text.specs.Script.{lines_posted}
use Rattle.script_text.specs.declared.script.Script.{Script}
use Rattle.trace_text.specs.Lines.{end_text}
use Rattle.trace_text.specs.declared.ends.Halt.{Halt}
use Rattle.trace_text.specs.declared.ends.Halt.TheVariants as halts
use Rattle.std.specs.Prelude.{List, Option, Some, false, length, ℕ, ◌++◌, ◌≡◌, ◌≤◌, ◌⊎◌}

-- ---- a session so far

-- There is a session of the script with these takes and calls: each was due, and no more calls were made than are
-- allowed. Of each client, the lines taken are its first, in order, and then come those left.
pub record IsSoFar (turns : ℕ) (script : Script) (takes : List Took) (calls : ℕ) (left : List Line) : Type 0 where
  pub due : AreDue script takes calls
  pub room : calls ≤ turns
  pub history : IsHistory script takes left

-- with these lines left it is over, and has ended so
abbrev pub EndsSo : ℕ → Script → List Took → ℕ → List Line → Halt → Type 0
EndsSo turns script takes calls left halt =
    over turns (session_at script takes calls).live.pod calls (full_shelves script.clients left)
    ≡ Some halt

-- no event that can be delivered has one of these lines
abbrev pub WantsNoneOf : Script → List Took → ℕ → List Line → Type 0
WantsNoneOf script takes calls left =
    is_wanted (session_at script takes calls).live.pod (full_shelves script.clients left)
    ≡ false

-- the lines of its takes and calls, and then its end, with how many lines of each client are left
abbrev pub bytes_to_end : ℕ → Script → List Took → ℕ → List Line → Halt → List ℕ
bytes_to_end turns script takes calls left halt = lines_after script takes calls
    ++ end_text turns (counts_from 0 script.clients left) halt

-- ---- what was told before and is told now

-- a session to its end, whole and nothing else
pub record IsLived (turns : ℕ) (script : Script) (old new : Option (List ℕ)) (takes : List Took)
    (calls : ℕ) (halt : Halt) : Type 0 where
  pub left : List Line
  pub so_far : IsSoFar turns script takes calls left
  pub halted : EndsSo turns script takes calls left halt
  pub written : new ≡ after_append old (bytes_to_end turns script takes calls left halt)
  pub stuck : halt ≡ halts.Stuck → WantsNoneOf script takes calls left

-- it stopped between two steps, or after the last one: the lines of its takes and calls
pub record IsLiveStopped (turns : ℕ) (script : Script) (old new : Option (List ℕ))
    (takes : List Took) (calls : ℕ) : Type 0 where
  pub left : List Line
  pub so_far : IsSoFar turns script takes calls left
  pub written : new ≡ after_append old (lines_after script takes calls)

-- it was over, and not all that follows its steps was written
pub record IsCutAfter (turns : ℕ) (script : Script) (old new : Option (List ℕ)) (takes : List Took)
    (calls : ℕ) (left : List Line) : Type 0 where
  pub halt : Halt
  pub halted : EndsSo turns script takes calls left halt
  pub cut : AppendsCut old new (lines_after script takes calls) (bytes_to_end turns script takes calls left halt)

-- it broke off in a write: the lines of all steps but the last were written, and not all of the last one's; or it broke
-- off after them
pub record IsLiveBroken (turns : ℕ) (script : Script) (old new : Option (List ℕ))
    (takes : List Took) (calls : ℕ) : Type 0 where
  pub left : List Line
  pub so_far : IsSoFar turns script takes calls left
  pub cut : AppendsCut old new (lines_before script takes calls) (lines_after script takes calls)
      ⊎ IsCutAfter turns script old new takes calls left

-- ---- what a session says

-- a session to its end
abbrev pub IsLiveRun : ℕ → Script → Stream → Session → Type 0
IsLiveRun turns script sink session =
    IsFaultless sink
    × ((halt : Halt) × (takes : List Took) × (session.end ≡ end_of halt) × Tells session takes
    × IsLived turns script sink.old sink.new takes session.turns halt)

-- a session as far as it came, where a write failed
abbrev pub IsLiveRunBroken : ℕ → Script → Stream → Session → Type 0
IsLiveRunBroken turns script sink session =
    (takes : List Took) × Tells session takes × IsLiveBroken turns script sink.old sink.new takes session.turns

-- a session as far as it came, out of memory
abbrev pub IsLiveRunStopped : ℕ → Script → Stream → Session → Type 0
IsLiveRunStopped turns script sink session =
    (takes : List Took) × Tells session takes × IsLiveStopped turns script sink.old sink.new takes session.turns

-- what each end says of the session of a script that was read
abbrev pub LiveSays : ℕ → Script → Stream → Session → SessionEnd → Type 0
LiveSays turns script sink session (end.Ended status) = IsLiveRun turns script sink session
LiveSays turns script sink session end.Stuck = IsLiveRun turns script sink session
LiveSays turns script sink session end.Spent = IsLiveRun turns script sink session
LiveSays turns script sink session end.WriteFault = IsFaulty sink × IsLiveRunBroken turns script sink session
LiveSays turns script sink session end.NoMemory = IsFaultless sink
    × (IsUnread sink session ⊎ IsLiveRunStopped turns script sink session)
LiveSays turns script sink session _ = ⊥

-- what a session says of a script that was read
pub record IsLivePlayed (turns : ℕ) (script : Script) (sink : Stream) (session : Session) : Type 0 where
  pub status : session.status ≡ status_of session.end
  pub says : LiveSays turns script sink session session.end

-- what a session of `run` says, with so many turns allowed: it says as much as one of `plan`, but of a session with some
-- takes, which it tells
abbrev pub IsLive : ℕ → Stream → Stream → Session → Type 0
IsLive turns source sink session = IsOf (λ script. LiveSays turns script sink session) source sink session

-- ---- what was posted

-- all lines of the script were posted, and so many they are
abbrev pub IsAllPosted : Script → Option ℕ → Type 0
IsAllPosted script posted = posted ≡ Some (length (lines_posted script))

-- a session of this script that comes to its own end has all lines posted
abbrev pub PostsSay : Script → Option ℕ → SessionEnd → Type 0
PostsSay script posted (end.Ended status) = IsAllPosted script posted
PostsSay script posted end.Stuck = IsAllPosted script posted
PostsSay script posted end.Spent = IsAllPosted script posted
PostsSay script posted _ = Unit {0}

-- what a session of `run` says, and what is said of the posts of the same script
abbrev pub LivePosts : ℕ → Stream → Stream → LiveSession → Type 0
LivePosts turns source sink live = IsOf
    (λ script e. LiveSays turns script sink live.session e × PostsSay script live.posted e) source sink live.session
