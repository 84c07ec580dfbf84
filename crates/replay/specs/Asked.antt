-- What a trace is a trace of, and which traces there are.
use Rattle.event_gate.specs.History.{IsClientHistory}
use Rattle.event_gate.specs.Port.{of}
use Rattle.event_gate.specs.Shelves.{full_shelves}
use Rattle.lwp_types.specs.declared.call.Line.{Line}
use Rattle.pod_runner.specs.Due.{IsDefined}
use Rattle.pod_runner.specs.Over.{over}
use Rattle.pod_runner.specs.Play.{play}
use Rattle.pod_runner.specs.Run.{but_last}
use Rattle.pod_runner.specs.Session.{Session, Setting}
use Rattle.pod_runner.specs.Trace.{lines}
use Rattle.pod_runner.specs.declared.session.Took.{Took}
use Rattle.trace_text.specs.Lines.{end_text}
use Rattle.trace_text.specs.declared.ends.Halt.{Halt}
use Rattle.std.specs.Prelude.{List, None, Option, Some, [], length, map, ℕ, ◌++◌, ◌+◌, ◌∷◌, ◌≡◌, ◌≤◌}

-- the event and the line of each take
abbrev pub pairs_of : List Took → List (ℕ × Line)
pairs_of takes = map (λ took. (took.event, took.line)) takes

-- how many of these lines each client has, counted from c
abbrev pub counts_from : ℕ → List ℕ → List Line → List ℕ
counts_from c [] left = []
counts_from c (event ∷ clients) left = length (of c left) ∷ counts_from (c + 1) clients left

-- a program with its clients: the names of its procedures, each client's event, the lines they post, and how many calls
-- are allowed
pub record Asked (B : Type 0) : Type 0 where
  pub setting : Setting B
  pub procs : List (List ℕ)
  pub clients : List ℕ
  pub posts : List Line
  pub turns : ℕ

-- how far a session is: the lines taken, the oldest first, the calls made, and the lines left
pub record Reach : Type 0 where
  pub takes : List Took
  pub calls : ℕ
  pub left : List Line

-- before the first step
abbrev pub opening_reach : {B : Type 0} → Asked B → Reach
opening_reach asked = record { takes = []; calls = 0; left = asked.posts }

-- There is such a session: each take and each call was due, and no more calls were made than are allowed. Of each
-- client, the lines taken are its first, in order, and then come those left.
pub record IsReached {B : Type 0} (asked : Asked B) (at : Reach) : Type 0 where
  pub due : IsDefined asked.setting at.takes at.calls
  pub room : at.calls ≤ asked.turns
  pub history : IsClientHistory asked.clients asked.posts (pairs_of at.takes) at.left

-- its session
abbrev pub session_at : {B : Type 0} → Asked B → Reach → Session B
session_at asked at = play asked.setting at.takes at.calls

-- the lines of its steps
abbrev pub lines_at : {B : Type 0} → Asked B → Reach → List ℕ
lines_at asked at = lines asked.procs (session_at asked at).steps

-- the lines of all its steps but the last
abbrev pub lines_before : {B : Type 0} → Asked B → Reach → List ℕ
lines_before asked at = lines asked.procs (but_last (session_at asked at).steps)

-- how it has ended, if it has
abbrev pub halt_at : {B : Type 0} → Asked B → Reach → Option Halt
halt_at asked at = over asked.turns (session_at asked at).live.pod at.calls (full_shelves asked.clients at.left)

-- what follows the lines of the last step, if it has ended so; nothing, as long as it goes on
abbrev pub end_by : {B : Type 0} → Asked B → Reach → Option Halt → List ℕ
end_by asked at None = []
end_by asked at (Some halt) = end_text asked.turns (counts_from 0 asked.clients at.left) halt

-- all that it has told
abbrev pub text_at : {B : Type 0} → Asked B → Reach → List ℕ
text_at asked at = lines_at asked at ++ end_by asked at (halt_at asked at)

-- the bytes are the trace of the session that is so far, and is over
pub record IsTraceAt {B : Type 0} (asked : Asked B) (at : Reach) (bytes : List ℕ) : Type 0 where
  pub reached : IsReached asked at
  pub halt : Halt
  pub over : halt_at asked at ≡ Some halt
  pub whole : bytes ≡ text_at asked at

-- the bytes are a trace
abbrev pub IsTrace : {B : Type 0} → Asked B → List ℕ → Type 0
IsTrace asked bytes = (at : Reach) × IsTraceAt asked at bytes
