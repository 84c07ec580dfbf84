-- Sessions in virtual time: after each call the clock ticks as long as nobody may run and a timer is pending.
use Rattle.lwp_types.specs.Names.{Names}
use Rattle.lwp_types.specs.Poll.{Next}
use Rattle.lwp_types.specs.declared.call.PodParams.{PodParams}
use Rattle.pod_events.specs.Events.{has_turn, is_takeable}
use Rattle.pod_events.specs.Ticks.{after_ticks, next_due}
use Rattle.pod_runner.specs.Due.{IsDefined}
use Rattle.pod_runner.specs.Phase.{phase_of}
use Rattle.pod_runner.specs.Play.{play}
use Rattle.pod_runner.specs.Session.{Live, Setting, move, opening_session, row_of, take_move}
use Rattle.pod_runner.specs.declared.phase.Phase.{Phase}
use Rattle.pod_runner.specs.declared.session.Took.{Took}
use Rattle.std.specs.Prelude.{Bool, IsTrue, List, Option, [], if◌then◌else◌, nat_le, not, option_map, suc, true, zero, ℕ, ◌&&◌, ◌++◌, ◌+◌, ◌-◌, ◌∷◌, ◌≡◌, ◌≤◌}

-- the clock stops after so many ticks
abbrev pub last_tick : ℕ
last_tick = 4294967295

-- nobody may run, the clock can tick, and a timer falls due before the clock stops
abbrev pub is_tick_due : {B : Type 0} → Live B → Bool
is_tick_due live = not (has_turn live.pod.state) && (is_takeable live.pod 0 && nat_le (next_due live.pod.state) last_tick)

-- the line of a tick, after so many calls: its number is how often the clock has ticked before
abbrev pub tick_took : {B : Type 0} → ℕ → Live B → Took
tick_took calls live =
    record { turn = calls; event = 0; line = record { client = 0; seq = live.pod.state.now; text = [] } }

-- the clock has ticked once more
abbrev pub ticked : {B : Type 0} → List B → ℕ → Live B → Live B
ticked bodies calls live = (take_move bodies (tick_took calls live) live).live

-- the clock has ticked up to right before the first timer falls due
abbrev pub jumped : {B : Type 0} → Live B → Live B
jumped live = let s = live.pod.state in
    record live { pod = record live.pod { state = after_ticks (next_due s - s.now - 1) s } }

-- the clock has ticked as long as that was due, but so often at most
unfoldable pub ticked_for : {B : Type 0} → List B → ℕ → ℕ → Live B → Live B
ticked_for bodies calls zero live = live
ticked_for bodies calls (suc k) live =
    if is_tick_due live then ticked_for bodies calls k (ticked bodies calls live) else live

-- those ticks
unfoldable pub ticks_for : {B : Type 0} → List B → ℕ → ℕ → Live B → List Took
ticks_for bodies calls zero live = []
ticks_for bodies calls (suc k) live =
    if is_tick_due live then tick_took calls live ∷ ticks_for bodies calls k (ticked bodies calls live) else []

-- how often the clock can tick still
abbrev pub ticks_left : {B : Type 0} → Live B → ℕ
ticks_left live = last_tick - live.pod.state.now

-- no tick is due any more
abbrev pub caught_up : {B : Type 0} → List B → ℕ → Live B → Live B
caught_up bodies calls live = ticked_for bodies calls (ticks_left live) live

-- how a session stands after a call, before any tick
abbrev pub called : {B : Type 0} → Setting B → Live B → Live B
called setting live = (move setting.next setting.bodies live).live

-- how it stands after so many calls, and the ticks after each
unfoldable pub live_after : {B : Type 0} → Setting B → ℕ → Live B
live_after setting zero = (opening_session setting).live
live_after setting (suc n) = caught_up setting.bodies (suc n) (called setting (live_after setting n))

-- all ticks up to there, the oldest first
unfoldable pub ticks_after : {B : Type 0} → Setting B → ℕ → List Took
ticks_after setting zero = []
ticks_after setting (suc n) = let live = called setting (live_after setting n) in
    ticks_after setting n ++ ticks_for setting.bodies (suc n) (ticks_left live) live

-- each of so many calls was made when somebody might run
unfoldable pub TurnsCame : {B : Type 0} → Setting B → ℕ → Type 0
TurnsCame setting zero = Unit {0}
TurnsCame setting (suc n) = TurnsCame setting n × IsTrue (has_turn (live_after setting n).pod.state)

-- these are sessions, with those ticks as their takes
abbrev pub TimedSessionsAreSessions : Type 0 → Type 0
TimedSessionsAreSessions B = (setting : Setting B) (n : ℕ) → TurnsCame setting n
    → IsDefined setting (ticks_after setting n) n × ((play setting (ticks_after setting n) n).live ≡ live_after setting n)

-- ---- runs

-- a run in virtual time: what it plays, and how far it is
pub record Timed (P : Type 0) : Type 0 where
  pub program : P
  pub params : PodParams
  -- the names at the start
  pub names : Names
  -- how many calls are allowed
  pub turns : ℕ
  -- how many were made
  pub calls : ℕ
  pub failed : Bool

-- what it plays
abbrev pub setting_of : {B P : Type 0} → Next B → (P → List B) → Timed P → Setting B
setting_of next bodies run = record { next = next; bodies = bodies run.program; params = run.params; names = run.names }

-- how its session stands
abbrev pub live_now : {B P : Type 0} → Next B → (P → List B) → Timed P → Live B
live_now next bodies run = live_after (setting_of next bodies run) run.calls

-- where it stands
abbrev pub phase_now : {B P : Type 0} → Next B → (P → List B) → Timed P → Phase
phase_now next bodies run = phase_of (live_now next bodies run).pod.state run.turns run.calls

-- the body of a thread, if it lives
abbrev pub body_of : {B : Type 0} → ℕ → Live B → Option B
body_of t live = option_map (λ row. row.body) (row_of t live.rows)

-- one call more was made
abbrev pub with_call : {P : Type 0} → Timed P → Timed P
with_call run = record run { calls = run.calls + 1 }

-- the same run, with as many calls or more
abbrev pub IsLater : {P : Type 0} → Timed P → Timed P → Type 0
IsLater old new = (new ≡ record old { calls = new.calls; failed = new.failed }) × (old.calls ≤ new.calls)

-- it has failed
abbrev pub broken : {P : Type 0} → Timed P → Timed P
broken run = record run { failed = true }
