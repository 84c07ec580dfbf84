-- A session: what bodies and the machine do together, step by step.
use Rattle.lwp_types.specs.Choice.{choice}
use Rattle.lwp_types.specs.Names.{Names, names_for_poll}
use Rattle.lwp_types.specs.Poll.{Next, Polled}
use Rattle.lwp_types.specs.State.{opening}
use Rattle.pod_events.specs.Events.{EventState, quiet_events, take_event}
use Rattle.pod_events.specs.Step.{event_step}
use Rattle.lwp_types.specs.Unblock.{zero_answer}
use Rattle.lwp_types.specs.declared.call.Answer.{Answer}
use Rattle.lwp_types.specs.declared.call.Call.{Call}
use Rattle.lwp_types.specs.declared.call.Effect.{Effect}
use Rattle.lwp_types.specs.declared.call.PodParams.{PodParams}
use Rattle.pod_runner.specs.declared.session.Row.{Row}
use Rattle.pod_runner.specs.declared.session.Took.{Took}
use Rattle.std.specs.Prelude.{List, None, Option, Some, [], false, if◌then◌else◌, slice_get, true, ℕ, ◌++◌, ◌==◌, ◌∷◌}
use Rattle.lwp_types.specs.declared.call.Answer.TheVariants as answer
use Rattle.lwp_types.specs.declared.call.Call.TheVariants as call
use Rattle.lwp_types.specs.declared.call.Effect.TheVariants as effect

-- what is the same in all sessions of a program
pub record Setting (B : Type 0) : Type 0 where
  -- what bodies mean
  pub next : Next B
  -- the body that a thread begins as, by procedure
  pub bodies : List B
  pub params : PodParams
  -- the names at the start
  pub names : Names

-- how a session stands: the pod with its own events, the row of each live thread, and the names
pub record Live (B : Type 0) : Type 0 where
  pub pod : EventState
  pub rows : List (Row B)
  pub names : Names

-- how it stands after a step, and what the step did
pub record Move (B : Type 0) : Type 0 where
  pub live : Live B
  pub effects : List Effect

-- a step that was made: a take, or else a call
pub record Made : Type 0 where
  pub take : Option Took
  pub effects : List Effect

-- how a session stands, and its steps so far, the oldest first
pub record Session (B : Type 0) : Type 0 where
  pub live : Live B
  pub steps : List Made

-- ---- the threads' bodies

-- the row of a thread
abbrev pub row_of : {B : Type 0} → ℕ → List (Row B) → Option (Row B)
row_of t [] = None
row_of t (row ∷ rows) = if row.tid == t then Some row else row_of t rows

-- the rows, with another in the place of a thread's own
abbrev pub with_row : {B : Type 0} → ℕ → (Row B → Row B) → List (Row B) → List (Row B)
with_row t change [] = []
with_row t change (row ∷ rows) = if row.tid == t then change row ∷ rows else row ∷ with_row t change rows

-- the rows without a thread's own
abbrev pub without_row : {B : Type 0} → ℕ → List (Row B) → List (Row B)
without_row t [] = []
without_row t (row ∷ rows) = if row.tid == t then rows else row ∷ without_row t rows

-- a thread is polled with this answer next
abbrev pub after_answer : {B : Type 0} → ℕ → Answer → List (Row B) → List (Row B)
after_answer t a rows = with_row t (λ row. record row { answer = a }) rows

-- a thread's body stands so, and gave this call; what it was answered last is its answer still
abbrev pub after_poll : {B : Type 0} → ℕ → B → Call → List (Row B) → List (Row B)
after_poll t body c rows = with_row t (λ row. record row { body = body; called = true; call = c }) rows

-- the row of a new thread, which begins in this procedure as this body, if there is such a procedure
abbrev pub rows_of_new : {B : Type 0} → ℕ → ℕ → Option B → List (Row B)
rows_of_new t number None = []
rows_of_new t number (Some body) = record {
  tid = t;
  proc = number;
  body = body;
  answer = zero_answer;
  called = false;
  call = call.Return;
} ∷ []

-- the procedure of a Create
abbrev pub proc_of : Call → Option ℕ
proc_of (call.Create number prio flags) = Some number
proc_of _ = None

-- the thread that an answer names
abbrev pub thread_in : Answer → Option ℕ
thread_in (answer.Thread t) = Some t
thread_in _ = None

-- the row of the thread that was created, if the call creates one of this procedure, and it was answered so
abbrev pub rows_born : {B : Type 0} → List B → Option ℕ → Option ℕ → List (Row B)
rows_born bodies (Some number) (Some t) = rows_of_new t number (slice_get bodies number)
rows_born bodies None t = []
rows_born bodies (Some number) None = []

-- what one effect does to the rows, in a step that creates a thread of this procedure, if any
abbrev pub after_settle_by : {B : Type 0} → List B → Option ℕ → Effect → List (Row B) → List (Row B)
after_settle_by bodies born (effect.Answered t a) rows = after_answer t a rows ++ rows_born bodies born (thread_in a)
after_settle_by bodies born (effect.Died t) rows = without_row t rows
after_settle_by bodies born _ rows = rows

-- what the effects of a step do to them, one after the other
abbrev pub after_settle : {B : Type 0} → List B → Option ℕ → List Effect → List (Row B) → List (Row B)
after_settle bodies born [] rows = rows
after_settle bodies born (e ∷ es) rows = after_settle bodies born es (after_settle_by bodies born e rows)

-- ---- the two kinds of step

-- nothing happens
abbrev pub no_move : {B : Type 0} → Live B → Move B
no_move live = record { live = live; effects = [] }

-- the call that a thread's body gave is made
unfoldable pub call_move : {B : Type 0} → List B → Live B → ℕ → Polled B → Move B
call_move bodies live t reply = let out = event_step live.pod reply.0 in record {
  live = record {
    pod = out.after;
    rows = after_settle bodies (proc_of reply.0) out.effects (after_poll t reply.1 reply.0 live.rows);
    names = reply.2;
  };
  effects = out.effects;
}

-- the body of a thread is polled, and its call is made
abbrev pub move_row : {B : Type 0} → Next B → List B → Live B → ℕ → Option (Row B) → Move B
move_row next bodies live t None = no_move live
move_row next bodies live t (Some row) =
    call_move bodies live t (next row.body (names_for_poll t live.names) row.answer)

-- the body of the thread that was chosen, if one was, is polled, and its call is made
abbrev pub move_by : {B : Type 0} → Next B → List B → Live B → Option ℕ → Move B
move_by next bodies live None = no_move live
move_by next bodies live (Some t) = move_row next bodies live t (row_of t live.rows)

-- a call: the thread whose turn it is is polled, and its call is made
unfoldable pub move : {B : Type 0} → Next B → List B → Live B → Move B
move next bodies live = move_by next bodies live (choice live.pod.state)

-- a take: its text is delivered to its event
unfoldable pub take_move : {B : Type 0} → List B → Took → Live B → Move B
take_move bodies took live = let out = take_event live.pod took.event took.line.text in record {
  live = record live { pod = out.after; rows = after_settle bodies None out.effects live.rows };
  effects = out.effects;
}

-- ---- sessions

-- the first thread alone, before its first call
abbrev pub opening_session : {B : Type 0} → Setting B → Session B
opening_session setting = record {
  live = record {
    pod = quiet_events (opening setting.params);
    rows = rows_of_new 0 0 (slice_get setting.bodies 0);
    names = setting.names;
  };
  steps = [];
}

-- a session, one step on
abbrev pub with_move : {B : Type 0} → Session B → Option Took → Move B → Session B
with_move s took m = record { live = m.live; steps = s.steps ++ record { take = took; effects = m.effects } ∷ [] }

-- a session, one call on
abbrev pub call_step : {B : Type 0} → Setting B → Session B → Session B
call_step setting s = with_move s None (move setting.next setting.bodies s.live)

-- a session, one take on
abbrev pub take_step : {B : Type 0} → Setting B → Took → Session B → Session B
take_step setting took s = with_move s (Some took) (take_move setting.bodies took s.live)
