-- What the next recorded line says of the next step.
use Rattle.event_gate.specs.Shelves.{event_of}
use Rattle.lwp_types.specs.declared.call.Line.{Line}
use Rattle.pod_events.specs.Events.{EventState, is_takeable}
use Rattle.pod_runner.specs.Over.{events}
use Rattle.pod_runner.specs.Phase.{phase_of, phase_of_halt}
use Rattle.replay.specs.Recorded.{Agree}
use Rattle.replay.specs.Verdict.{first_result, take_lines, take_text, tells_take}
use Rattle.replay.specs.Walk.{ClientsLeft}
use Rattle.replay.specs.declared.replaying.Next.{Next}
use Rattle.replay.specs.declared.replaying.TakeTold.{TakeTold}
use Rattle.trace_text.specs.Lines.{ended_line}
use Rattle.std.specs.List.{range_with_len}
use Rattle.std.specs.Prelude.{List, None, Option, Some, [], drop, if◌then◌else◌, length, map, set, slice_get, slice_index_or, true, ℕ, ◌<◌, ◌==◌, ◌≡◌, ◌⊎◌}
use Rattle.pod_runner.specs.declared.phase.Phase.TheVariants as phase
use Rattle.replay.specs.declared.replaying.Next.TheVariants as next
use Rattle.trace_text.specs.declared.ends.Halt.TheVariants as halts

-- the first line that a client has left
abbrev pub next_in : ClientsLeft → ℕ → Option Line
next_in lines c = slice_get (slice_index_or lines.left c []) 0

-- that line is taken
abbrev pub without_next : ClientsLeft → ℕ → ClientsLeft
without_next lines c = record lines { left = set lines.left c (drop 1 (slice_index_or lines.left c [])) }

-- how many lines each has left
abbrev pub counts_in : ClientsLeft → List ℕ
counts_in lines = map (λ l. length l) lines.left

-- the event that it posts to
abbrev pub event_in : ClientsLeft → ℕ → ℕ
event_in lines c = event_of lines.clients c

-- this line of a client can be taken, and the recorded lines begin with that of this take
pub record IsTold (lines : ClientsLeft) (pod : EventState) (rest : List ℕ) (c : ℕ) (line : Line) : Type 0 where
  pub within : c < length lines.clients
  pub next : next_in lines c ≡ Some line
  pub waits : is_takeable pod (event_in lines c) ≡ true
  pub agree : Agree 1 rest (ended_line (take_text pod.state.now (event_in lines c) line))

-- of the first so many clients none has such a line
abbrev pub NoneTold : ClientsLeft → EventState → List ℕ → ℕ → Type 0
NoneTold lines pod rest n = (c : ℕ) (line : Line) → c < n → IsTold lines pod rest c line → ⊥

-- whether this client has, and which line
abbrev pub ToldOf : ClientsLeft → EventState → List ℕ → ℕ → Option Line → Type 0
ToldOf lines pod rest c None = (line : Line) → IsTold lines pod rest c line → ⊥
ToldOf lines pod rest c (Some line) = IsTold lines pod rest c line

-- which one has, if any
abbrev pub ToldBy : ClientsLeft → EventState → List ℕ → Option TakeTold → Type 0
ToldBy lines pod rest None = NoneTold lines pod rest (length lines.clients)
ToldBy lines pod rest (Some told) = IsTold lines pod rest told.client told.line

-- the line of a take, if this is the event of the client, and it has a line left
abbrev pub take_in : ClientsLeft → ℕ → ℕ → ℕ → Option (List ℕ)
take_in lines now e c = if event_in lines c == e then take_lines now e (next_in lines c) else None

-- that of the lowest client of an event of which a line can be taken
abbrev pub take_at : ClientsLeft → EventState → ℕ → Option (List ℕ)
take_at lines pod e = if is_takeable pod e
    then first_result (take_in lines pod.state.now e) (range_with_len 0 (length lines.clients))
    else None

-- that of the lowest event
abbrev pub lowest_in : ClientsLeft → EventState → Option (List ℕ)
lowest_in lines pod = first_result (take_at lines pod) events

-- no take is told, and how it goes on by where the session stands
abbrev pub Goes : ClientsLeft → EventState → ℕ → ℕ → List ℕ → Next → Type 0
Goes lines pod turns calls rest (next.Take told) = IsTold lines pod rest told.client told.line
Goes lines pod turns calls rest next.Call = NoneTold lines pod rest (length lines.clients)
    × (phase_of pod.state turns calls ≡ phase.Turn) × (tells_take rest ≡ true → lowest_in lines pod ≡ None)
Goes lines pod turns calls rest (next.Over halt) = NoneTold lines pod rest (length lines.clients)
    × (phase_of pod.state turns calls ≡ phase_of_halt halt) × (halt ≡ halts.Stuck → lowest_in lines pod ≡ None)
Goes lines pod turns calls rest (next.Missing line) = NoneTold lines pod rest (length lines.clients)
    × (lowest_in lines pod ≡ Some line.items)
    × ((phase_of pod.state turns calls ≡ phase.Idle)
    ⊎ ((phase_of pod.state turns calls ≡ phase.Turn) × (tells_take rest ≡ true)))
