-- A walk along recorded lines: at each moment they say what the next step is.
use Rattle.event_gate.specs.History.{lines_of}
use Rattle.event_gate.specs.Port.{IsNumbered, of}
use Rattle.event_gate.specs.Shelves.{event_of}
use Rattle.lwp_types.specs.declared.call.Effect.{Effect}
use Rattle.lwp_types.specs.declared.call.Line.{Line}
use Rattle.pod_events.specs.Events.{is_takeable}
use Rattle.pod_runner.specs.Due.{IsDefined, is_call_due}
use Rattle.pod_runner.specs.Play.{play}
use Rattle.pod_runner.specs.Run.{but_last}
use Rattle.pod_runner.specs.Session.{Session, Setting, move, take_move}
use Rattle.pod_runner.specs.Trace.{lines}
use Rattle.pod_runner.specs.declared.session.Took.{Took}
use Rattle.replay.specs.Asked.{Asked, IsReached, Reach, pairs_of, text_at}
use Rattle.replay.specs.Recorded.{Agree, line_count}
use Rattle.trace_text.specs.Lines.{step_lines}
use Rattle.std.specs.Prelude.{All, Bool, IsTrue, List, None, Option, Some, [], drop, false, if◌then◌else◌, length, nat_lt, option_map}
use Rattle.std.specs.Prelude.{slice_get, slice_index_or, take, true, ℕ, ◌&&◌, ◌++◌, ◌+◌, ◌<◌, ◌==◌, ◌^◌, ◌∷◌, ◌≡◌, ◌≤◌, ◌⊎◌}
use Rattle.lwp_types.specs.declared.call.Effect.TheVariants as effect

-- a moment of a session: the takes so far, the oldest first, and how many calls were made
pub record Moment : Type 0 where
  pub takes : List Took
  pub calls : ℕ

-- what comes next: a call, or a take of an event's line
abbrev pub Move : Type 0
Move = Option (ℕ × Line)

-- the take of a line, as it is made now
abbrev pub took_at : Moment → ℕ × Line → Took
took_at at t = record { turn = at.calls; event = t.0; line = t.1 }

abbrev pub after_move : Moment → Move → Moment
after_move at None = record at { calls = at.calls + 1 }
after_move at (Some t) = record at { takes = at.takes ++ took_at at t ∷ [] }

-- after all these, one by one
abbrev pub after_moves : Moment → List Move → Moment
after_moves at [] = at
after_moves at (m ∷ ms) = after_moves (after_move at m) ms

-- before the first step
abbrev pub first_moment : Moment
first_moment = record { takes = []; calls = 0 }

module _ {B : Type 0} (setting : Setting B) where
  abbrev pub session_of : Moment → Session B
  session_of at = play setting at.takes at.calls

  -- there is such a session
  abbrev pub IsAt : Moment → Type 0
  IsAt at = IsDefined setting at.takes at.calls

  -- this may come next
  abbrev pub Due : Moment → Move → Type 0
  Due at None = IsTrue (is_call_due (session_of at))
  Due at (Some t) = IsTrue (is_takeable (session_of at).live.pod t.0)

  abbrev pub DueAll : Moment → List Move → Type 0
  DueAll at [] = Unit {0}
  DueAll at (m ∷ ms) = Due at m × DueAll (after_move at m) ms

  -- a moment from which another is reached
  pub record Reaches (from to : Moment) : Type 0 where
    pub moves : List Move
    pub due : DueAll from moves
    pub comes : after_moves from moves ≡ to

module _ {B : Type 0} (setting : Setting B) (procs : List (List ℕ)) where
  -- the lines told until then
  abbrev pub lines_until : Moment → List ℕ
  lines_until at = lines procs (session_of setting at).steps

  -- the effects of the next step
  abbrev pub move_effects : Moment → Move → List Effect
  move_effects at None = (move setting.next setting.bodies (session_of setting at).live).effects
  move_effects at (Some t) = (take_move setting.bodies (took_at at t) (session_of setting at).live).effects

  -- its lines
  abbrev pub move_lines : Moment → Move → List ℕ
  move_lines at m = step_lines procs (option_map (λ (t : ℕ × Line). t.1) m) (move_effects at m)

-- ---- what is asked for

-- what the numbers of clients and events are below; each client's lines are numbered from 0
pub record IsFit {B : Type 0} (asked : Asked B) : Type 0 where
  pub events : (c : ℕ) → event_of asked.clients c < 2 ^ 64
  pub posters : All (λ (line : Line). line.client < length asked.clients) asked.posts
  pub few : length asked.clients ≤ 256
  pub numbered : (c : ℕ) → IsNumbered 0 (of c asked.posts)

-- it tells of a thread's call, or of the trap that is raised before it
abbrev pub is_spoken : Effect → Bool
is_spoken (effect.Called t c) = true
is_spoken (effect.Trapped t e) = true
is_spoken _ = false

-- in each call step somebody speaks first
abbrev pub Speaks : {B : Type 0} → Asked B → Type 0
Speaks asked = (p : Moment) → IsAt asked.setting p → Due asked.setting p None
    → (e : Effect) × (es : List Effect) × (move_effects asked.setting asked.procs p None ≡ e ∷ es)
    × (is_spoken e ≡ true)

-- each procedure has a body, and priorities are in their limits
pub record IsPeopled {B : Type 0} (setting : Setting B) : Type 0 where
  pub bodies : length setting.bodies ≡ setting.params.procs
  pub first : 1 ≤ setting.params.procs
  pub least : 1 ≤ setting.params.maxpri
  pub most : setting.params.maxpri ≤ 255

-- how many of a client's lines are taken
abbrev pub count_of : ℕ → List Took → ℕ
count_of c takes = length (of c (lines_of (pairs_of takes)))

-- the line is the next one of its client, and the event is its client's
pub record IsNext {B : Type 0} (asked : Asked B) (p : Moment) (t : ℕ × Line) : Type 0 where
  pub event : event_of asked.clients t.1.client ≡ t.0
  pub line : slice_get (of t.1.client asked.posts) (count_of t.1.client p.takes) ≡ Some t.1

-- the moment that a session has come to
abbrev pub moment : {B : Type 0} → Asked B → Reach → Moment
moment asked at = record { takes = at.takes; calls = at.calls }

-- ---- where a walk stands

-- each session that begins with the first n recorded lines goes through this moment
abbrev pub Forced : {B : Type 0} → Asked B → List ℕ → ℕ → Moment → Type 0
Forced asked bytes n p = (at : Reach) → IsReached asked at → Agree n bytes (text_at asked at)
    → Reaches asked.setting p (moment asked at)

-- the recorded lines begin with those that are told until this moment, and no other session does
pub record Stands {B : Type 0} (asked : Asked B) (bytes : List ℕ) (n : ℕ) (p : Moment) (rest : List ℕ) : Type 0 where
  pub made : IsAt asked.setting p
  pub begins : bytes ≡ lines_until asked.setting asked.procs p ++ rest
  pub count : n ≡ line_count (lines_until asked.setting asked.procs p)
  pub forced : Forced asked bytes n p

-- each step has told its first line by then
abbrev pub IsLast : {B : Type 0} → Asked B → Moment → ℕ → Type 0
IsLast asked p n = (session_of asked.setting p).steps ≡ []
    ⊎ (line_count (lines asked.procs (but_last (session_of asked.setting p).steps)) < n)

-- the lines left of each client, by number
pub record ClientsLeft : Type 0 where
  pub clients : List ℕ
  pub left : List (List Line)

-- they are those among these lines
pub record AreLeft (lines : ClientsLeft) (left : List Line) : Type 0 where
  pub long : length lines.left ≡ length lines.clients
  pub each : (c : ℕ) → c < length lines.clients → slice_index_or lines.left c [] ≡ of c left

-- how often the clock has ticked after a take of the event, where it may tick no more than so often
abbrev pub ticks_after : ℕ → ℕ → ℕ
ticks_after e ticks = if e == 0 && nat_lt ticks 4294967295 then ticks + 1 else ticks

-- a walk between two steps, where these lines are left, and `at` of the recorded bytes, which are n lines, were told;
-- the clock has ticked so often
pub record Going {B : Type 0} (asked : Asked B) (bytes : List ℕ) (p : Moment)
    (clients : ClientsLeft) (at n ticks : ℕ) : Type 0 where
  pub left : List Line
  pub reached : IsReached asked (record { takes = p.takes; calls = p.calls; left = left })
  pub same_clients : clients.clients ≡ asked.clients
  pub kept : AreLeft clients left
  pub stands : Stands asked bytes n p (drop at bytes)
  pub said : take at bytes ≡ lines_until asked.setting asked.procs p
  pub last : IsLast asked p n
  pub clock : (session_of asked.setting p).live.pod.state.now ≡ ticks
