-- Whether recorded bytes are a trace, and if not, which line is the first that differs.
use Rattle.event_gate.specs.Port.{of}
use Rattle.event_gate.specs.Shelves.{event_of}
use Rattle.lwp_types.specs.Choice.{choice}
use Rattle.lwp_types.specs.declared.call.Line.{Line}
use Rattle.pod_events.specs.Events.{is_takeable}
use Rattle.pod_runner.specs.Over.{events}
use Rattle.pod_runner.specs.Session.{move}
use Rattle.pod_runner.specs.declared.session.Took.{Took}
use Rattle.replay.specs.Asked.{Asked, IsReached, IsTrace, IsTraceAt, Reach, halt_at, session_at, text_at, lines_at, lines_before}
use Rattle.replay.specs.Recorded.{Agree, behind_lines, is_ended, line_count, next_line}
use Rattle.trace_text.specs.Lines.{ended_line, step_lines, taken_text, ticked_text}
use Rattle.trace_text.specs.declared.ends.Halt.{Halt}
use Rattle.std.specs.List.{range_with_len}
use Rattle.std.specs.Prelude.{Bool, List, None, Option, Some, [], codes, false, if◌then◌else◌, is_some, length, not, option_map}
use Rattle.std.specs.Prelude.{slice_get, true, unwrap_or, ℕ, ◌&&◌, ◌+◌, ◌<◌, ◌==◌, ◌||◌, ◌≡◌, ◌≤◌, ◌∷◌, ◌⊎◌}

-- ---- how far the recorded lines are those of a trace

-- the first n recorded lines are the first n lines of some trace
abbrev pub IsBegun : {B : Type 0} → Asked B → List ℕ → ℕ → Type 0
IsBegun asked bytes n = (trace : List ℕ) × IsTrace asked trace × Agree n bytes trace

-- and n is the greatest such number
pub record IsMost {B : Type 0} (asked : Asked B) (bytes : List ℕ) (n : ℕ) : Type 0 where
  pub begun : IsBegun asked bytes n
  pub most : (m : ℕ) → IsBegun asked bytes m → m ≤ n

-- the steps of a session are those whose first line is among the first n recorded lines, which are the first n of what
-- it has told
pub record IsFollowed {B : Type 0} (asked : Asked B) (bytes : List ℕ) (n : ℕ) (at : Reach) : Type 0 where
  pub reached : IsReached asked at
  pub agree : Agree n bytes (text_at asked at)
  -- each step has its first line among them
  pub last : (session_at asked at).steps ≡ [] ⊎ (line_count (lines_before asked at) < n)

-- some line, or else another
abbrev pub or_else : Option (List ℕ) → Option (List ℕ) → Option (List ℕ)
or_else (Some line) other = Some line
or_else None other = other

-- ---- what was to come in the place of a line that differs

-- the first line that a client has left
abbrev pub next_of : ℕ → List Line → Option Line
next_of c left = slice_get (of c left) 0

-- the line that tells of a take, where the clock has ticked so often before it: event 0 is the clock, and its take a
-- tick
abbrev pub take_text : ℕ → ℕ → Line → List ℕ
take_text now e line = if e == 0 then ticked_text (now + 1) line else taken_text e line

-- that line with its newline, for the take of a line that is left
abbrev pub take_lines : ℕ → ℕ → Option Line → Option (List ℕ)
take_lines now e line = option_map (λ l. ended_line (take_text now e l)) line

-- that of the take of the next line of a client, if it has one left and posts to this event
abbrev pub take_by : {B : Type 0} → Asked B → ℕ → List Line → ℕ → ℕ → Option (List ℕ)
take_by asked now left e c = if event_of asked.clients c == e then take_lines now e (next_of c left) else None

-- what this gives first, if it gives anything, from a number on
abbrev pub first_result : (ℕ → Option (List ℕ)) → List ℕ → Option (List ℕ)
first_result f [] = None
first_result f (n ∷ ns) = or_else (f n) (first_result f ns)

-- the pod's clock has ticked so often
abbrev pub now_at : {B : Type 0} → Asked B → Reach → ℕ
now_at asked at = (session_at asked at).live.pod.state.now

-- of an event of which a line can be taken, that of its lowest client that has one left
abbrev pub take_of : {B : Type 0} → Asked B → Reach → ℕ → Option (List ℕ)
take_of asked at e = if is_takeable (session_at asked at).live.pod e
    then first_result (take_by asked (now_at asked at) at.left e) (range_with_len 0 (length asked.clients))
    else None

-- that of the lowest event of which a line can be taken, and that has one left
abbrev pub lowest_take : {B : Type 0} → Asked B → Reach → Option (List ℕ)
lowest_take asked at = first_result (take_of asked at) events

-- the lines of the next call step
abbrev pub call_lines : {B : Type 0} → Asked B → Reach → List ℕ
call_lines asked at = step_lines asked.procs None
    (move asked.setting.next asked.setting.bodies (session_at asked at).live).effects

-- a line begins so
abbrev pub begins_with : List ℕ → List ℕ → Bool
begins_with [] bytes = true
begins_with (a ∷ front) [] = false
begins_with (a ∷ front) (b ∷ bytes) = (a == b) && begins_with front bytes

-- it tells of a take
abbrev pub tells_take : List ℕ → Bool
tells_take line = begins_with (codes "event ") line || begins_with (codes "tick ") line

-- a take was to come: nobody may run, or the recorded line tells of one
abbrev pub asks_take : {B : Type 0} → Asked B → Reach → List ℕ → Bool
asks_take asked at rest = not (is_some (choice (session_at asked at).live.pod.state)) || tells_take rest

-- the lines of the step that was to come: a take, if one was to come and can be made; else a call
abbrev pub next_lines : {B : Type 0} → Asked B → Reach → List ℕ → List ℕ
next_lines asked at rest =
    unwrap_or (if asks_take asked at rest then lowest_take asked at else None) (call_lines asked at)

-- at a moment between two steps: where the session is over the next line of its end, if there is one; else that of the
-- next step
abbrev pub want_between : {B : Type 0} → Asked B → Reach → ℕ → List ℕ → Option Halt → Option (List ℕ)
want_between asked at n rest (Some halt) = next_line (behind_lines n (text_at asked at))
want_between asked at n rest None = next_line (next_lines asked at rest)

-- the line that was to come after the first n, where these bytes were recorded after them: in the midst of a step its
-- next line
abbrev pub want_at : {B : Type 0} → Asked B → Reach → ℕ → List ℕ → Option (List ℕ)
want_at asked at n rest =
    or_else (next_line (behind_lines n (lines_at asked at))) (want_between asked at n rest (halt_at asked at))

-- ---- the verdict

-- the bytes are a trace, of so many lines, with these takes and calls
pub record IsSame {B : Type 0} (asked : Asked B) (bytes : List ℕ) (lines : ℕ) (takes : List Took)
    (calls : ℕ) : Type 0 where
  pub left : List Line
  pub trace : IsTraceAt asked (record { takes = takes; calls = calls; left = left }) bytes
  pub count : lines ≡ line_count bytes

-- they are none, and this is the first line that differs
pub record IsOther {B : Type 0} (asked : Asked B) (bytes : List ℕ) (line : ℕ)
    (want got : Option (List ℕ)) (ended : Bool) (takes : List Took) (calls : ℕ) : Type 0 where
  pub none : IsTrace asked bytes → ⊥
  pub n : ℕ
  pub at : line ≡ n + 1
  pub most : IsMost asked bytes n
  pub left : List Line
  pub followed : IsFollowed asked bytes n (record { takes = takes; calls = calls; left = left })
  pub wanted : want ≡ want_at asked (record { takes = takes; calls = calls; left = left }) n (behind_lines n bytes)
  pub found : got ≡ next_line (behind_lines n bytes)
  pub whole : ended ≡ is_ended (behind_lines n bytes)
