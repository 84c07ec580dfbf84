-- What a session says that is fed while it runs.
use Rattle.lwp_live.specs.Answers.{answers_in}
use Rattle.lwp_live.specs.Input.{post_line, posts_of, said_of}
use Rattle.lwp_live.specs.Reading.{AreWritten}
use Rattle.lwp_live.specs.Recorded.{recorded, recorded_text, standing_of}
use Rattle.lwp_live.specs.declared.arrival.Arrival.{Arrival}
use Rattle.lwp_types.specs.Streams.{AppendsPrefix, after_append}
use Rattle.pod_runner.specs.declared.session.Took.{Took}
use Rattle.script_run.specs.Live.{IsLiveRunBroken, IsLiveRunStopped, LiveSays}
use Rattle.script_session.specs.Outcome.{status_of}
use Rattle.script_session.specs.Said.{IsOf, IsUnread, Tells, most_read}
use Rattle.script_session.specs.SoFar.{session_at}
use Rattle.script_session.specs.declared.session.Session.{Session}
use Rattle.script_session.specs.declared.session.SessionEnd.{SessionEnd}
use Rattle.script_session.specs.declared.session.SessionEnd.TheVariants as end
use Rattle.script_text.specs.Grammar.{Spells}
use Rattle.script_text.specs.declared.script.Script.{Script}
use Rattle.streams.specs.Limited.{HasFront}
use Rattle.streams.specs.Streams.{IsFaulty, Stream}
use Rattle.std.specs.Prelude.{List, Option, flat_map, take, ℕ, ◌++◌, ◌≡◌, ◌⊎◌}

-- the sinks of a session: of its trace, of its answers, of the script with the lines that were posted, and of what is said
-- of the lines that are no posts
pub record Sinks : Type 0 where
  pub trace : Stream
  pub answers : Stream
  pub posts : Stream
  pub said : Stream

-- ---- the headline, word for word that of `run`

-- What each end says of the session of this script. One that comes to its own end, or stops for want of memory, says what
-- `run` does. Where a write failed, it was one of the trace, and then what was written breaks off as with `run`; or one of
-- another sink, and then the trace goes as far as the session did, or the session hasn't begun.
abbrev pub EndSays : ℕ → Script → Sinks → Session → SessionEnd → Type 0
EndSays turns script sinks session end.WriteFault =
    (IsFaulty sinks.trace × IsLiveRunBroken turns script sinks.trace session)
    ⊎ ((IsFaulty sinks.answers ⊎ IsFaulty sinks.posts)
    × (IsUnread sinks.trace session ⊎ IsLiveRunStopped turns script sinks.trace session))
EndSays turns script sinks session e = LiveSays turns script sinks.trace session e

-- ---- the answers

-- the answers of a session with these takes and calls
abbrev pub answers_after : Script → List Took → ℕ → List ℕ
answers_after script takes calls = answers_in (session_at script takes calls).steps

-- all of them were written
pub record AreAnswered (script : Script) (sink : Stream) (session : Session) : Type 0 where
  pub takes : List Took
  pub tells : Tells session takes
  pub written : sink.new ≡ after_append sink.old (answers_after script takes session.turns)

-- the first of them were
pub record AreAnsweredPart (script : Script) (sink : Stream) (session : Session) : Type 0 where
  pub takes : List Took
  pub tells : Tells session takes
  pub written : AppendsPrefix sink.old sink.new (answers_after script takes session.turns)

-- a session that came to its own end has written all of its answers, and any other the first of them
abbrev pub AnswersSay : Script → Stream → Session → SessionEnd → Type 0
AnswersSay script sink session (end.Ended status) = AreAnswered script sink session
AnswersSay script sink session end.Stuck = AreAnswered script sink session
AnswersSay script sink session end.Spent = AreAnswered script sink session
AnswersSay script sink session _ = AreAnsweredPart script sink session

-- ---- the posts

-- all posts of the input were posted, in order, and all were written down after the script
pub record ArePosted (script : Script) (text bytes : List ℕ) (arrivals : List Arrival) (sink : Stream) : Type 0 where
  pub all : arrivals ≡ posts_of (standing_of script text) bytes
  pub written : sink.new ≡ after_append sink.old (recorded_text text arrivals)

-- the first of them were; and of what was written down, which is the script and the first of them too, these are a part
pub record ArePostedPart (script : Script) (text bytes : List ℕ) (arrivals : List Arrival) (sink : Stream) : Type 0 where
  pub count : ℕ
  pub some : arrivals ≡ take count (posts_of (standing_of script text) bytes)
  pub rest : List ℕ
  pub written : sink.new ≡ after_append sink.old (recorded_text text arrivals ++ rest)
  pub first : AppendsPrefix sink.old sink.new (recorded_text text (posts_of (standing_of script text) bytes))

-- so it is by the end of the session; one that hasn't begun has posted nothing, and perhaps not written all of the script
abbrev pub PostsSay : Script → List ℕ → List ℕ → List Arrival → Stream → SessionEnd → Type 0
PostsSay script text bytes arrivals sink (end.Ended status) = ArePosted script text bytes arrivals sink
PostsSay script text bytes arrivals sink end.Stuck = ArePosted script text bytes arrivals sink
PostsSay script text bytes arrivals sink end.Spent = ArePosted script text bytes arrivals sink
PostsSay script text bytes arrivals sink _ = ArePostedPart script text bytes arrivals sink
    ⊎ AppendsPrefix sink.old sink.new text

-- ---- the other lines

-- why each line that is no post is none was said
abbrev pub AreSaid : Script → List ℕ → List ℕ → Stream → Type 0
AreSaid script text bytes said = said.new ≡ after_append said.old (said_of (standing_of script text) bytes)

-- a session that came to its own end has said of each of the other lines why it is none, unless the sink failed
abbrev pub FaultsSay : Script → List ℕ → List ℕ → Stream → SessionEnd → Type 0
FaultsSay script text bytes said (end.Ended status) = IsFaulty said ⊎ AreSaid script text bytes said
FaultsSay script text bytes said end.Stuck = IsFaulty said ⊎ AreSaid script text bytes said
FaultsSay script text bytes said end.Spent = IsFaulty said ⊎ AreSaid script text bytes said
FaultsSay script text bytes said _ = Unit {0}

-- ---- all of it

-- A script was read, of this text, and the input has given these bytes. With the lines that were posted it is a script
-- whose session this is.
pub record FeedsSession (turns : ℕ) (source : Stream) (bytes : List ℕ) (sinks : Sinks) (session : Session)
    (script : Script) (e : SessionEnd) : Type 0 where
  pub text : List ℕ
  pub told : HasFront most_read source.old text
  pub spelt : Spells text script
  pub arrivals : List Arrival
  pub says : EndSays turns (recorded script arrivals) sinks session e
  pub answers : AnswersSay (recorded script arrivals) sinks.answers session e
  pub posts : PostsSay script text bytes arrivals sinks.posts e
  pub faults : FaultsSay script text bytes sinks.said e

-- what a session says that was fed these bytes
abbrev pub IsFedSession : ℕ → Stream → List ℕ → Sinks → Session → Type 0
IsFedSession turns source bytes sinks session = IsOf (FeedsSession turns source bytes sinks session) source sinks.trace session

-- the same of what an input has given as the session ran, by what it tells of itself
abbrev pub IsFedFrom : {I : Type 0} → (I → List ℕ) → ℕ → Stream → I → I → Sinks → Session → Type 0
IsFedFrom given turns source old new sinks session = (bytes : List ℕ) × (given new ≡ given old ++ bytes)
    × IsFedSession turns source bytes sinks session

-- ---- the same of a script that was read

-- what was written down of the posts of a session, by its end, where the script stands before them already
abbrev pub PostsAdd : Script → List ℕ → List ℕ → List Arrival → Stream → SessionEnd → Type 0
PostsAdd script text bytes arrivals sink (end.Ended status) = (arrivals ≡ posts_of (standing_of script text) bytes)
    × (sink.new ≡ after_append sink.old (flat_map post_line arrivals))
PostsAdd script text bytes arrivals sink end.Stuck = (arrivals ≡ posts_of (standing_of script text) bytes)
    × (sink.new ≡ after_append sink.old (flat_map post_line arrivals))
PostsAdd script text bytes arrivals sink end.Spent = (arrivals ≡ posts_of (standing_of script text) bytes)
    × (sink.new ≡ after_append sink.old (flat_map post_line arrivals))
PostsAdd script text bytes arrivals sink _ = (count : ℕ) × (arrivals ≡ take count (posts_of (standing_of script text) bytes))
    × AreWritten sink.old sink.new (posts_of (standing_of script text) bytes) count

-- what a session of this script says, that was fed these bytes
pub record IsPlayedLive (turns : ℕ) (script : Script) (text bytes : List ℕ) (sinks : Sinks) (session : Session) : Type 0 where
  pub status : session.status ≡ status_of session.end
  pub arrivals : List Arrival
  pub says : EndSays turns (recorded script arrivals) sinks session session.end
  pub answers : AnswersSay (recorded script arrivals) sinks.answers session session.end
  pub posts : PostsAdd script text bytes arrivals sinks.posts session.end
  pub faults : FaultsSay script text bytes sinks.said session.end

-- the same of what an input has given
abbrev pub IsPlayedFrom : {I : Type 0} → (I → List ℕ) → ℕ → Script → List ℕ → I → I → Sinks → Session → Type 0
IsPlayedFrom given turns script text old new sinks session = (bytes : List ℕ) × (given new ≡ given old ++ bytes)
    × IsPlayedLive turns script text bytes sinks session
