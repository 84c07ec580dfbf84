-- Who waits with a timer is woken once, by whatever comes first, and never by a timer of an earlier wait.
use Rattle.lwp_types.specs.Agents.{deliver}
use Rattle.lwp_types.specs.Choice.{choice, is_eligible_in}
use Rattle.lwp_types.specs.Counts.{timers_of}
use Rattle.lwp_types.specs.Death.{withdraw}
use Rattle.lwp_types.specs.Lawful.{Lawful}
use Rattle.lwp_types.specs.State.{State, times_in}
use Rattle.lwp_types.specs.Step.{step}
use Rattle.lwp_types.specs.Time.{after_tick, due_threads, is_asleep_in, tick}
use Rattle.lwp_types.specs.Unblock.{after_unblock, timeout_answer, timer_for, zero_answer}
use Rattle.lwp_types.specs.declared.call.Call.{Call}
use Rattle.lwp_types.specs.declared.call.Effect.{Effect}
use Rattle.lwp_types.specs.declared.call.Mode.{Mode}
use Rattle.lwp_types.specs.declared.rows.TimerRow.{TimerRow}
use Rattle.std.specs.List.{count_by}
use Rattle.std.specs.Prelude.{Bool, IsTrue, List, None, Option, Some, [], if◌then◌else◌, map, ℕ, ◌++◌, ◌+◌, ◌∷◌, ◌≡◌, ◌≤◌}
use Rattle.lwp_types.specs.declared.call.Call.TheVariants as call
use Rattle.lwp_types.specs.declared.call.Effect.TheVariants as effect
use Rattle.lwp_types.specs.declared.call.Mode.TheVariants as mode

-- A tick.

-- what a thread is told whose timer falls due
abbrev pub due_answer : State → ℕ → Effect
due_answer s t = effect.Answered t (if is_asleep_in s t then zero_answer else timeout_answer)

-- it tells that the clock has ticked, and then each thread whose timer is due, once, in the order in which the timers
-- arrived
pub record TickAnswers (s : State) : Type 0 where
  pub told : (tick s).effects ≡ effect.Ticked (s.now + 1) ∷ map (due_answer s) (due_threads (after_tick s))
  pub once : (t : ℕ) → times_in (due_threads (after_tick s)) t ≤ 1
  pub gone : due_threads (tick s).after ≡ []

abbrev pub TicksAnswerTheDue : Type 0
TicksAnswerTheDue = (s : State) → Lawful s None → TickAnswers s

-- Timers go with the waits.

-- a thread that goes on, or begins to die, has no timer from then on; and who may run has none, so that none is left
-- where it waits again
pub record EndsTimers (s : State) (t : ℕ) : Type 0 where
  pub goes_on : timers_of (after_unblock s t).timers t ≡ 0
  pub dies : timers_of (withdraw t s).after.timers t ≡ 0
  pub runs : Lawful s None → IsTrue (is_eligible_in s t) → timers_of s.timers t ≡ 0

abbrev pub WaitsEndTimers : Type 0
WaitsEndTimers = (s : State) (t : ℕ) → EndsTimers s t

-- Timers come with the calls that ask for them.

-- for how many ticks a receive of this mode waits at most
abbrev pub ticks_in : Mode → Option ℕ
ticks_in mode.Poll = None
ticks_in mode.Block = None
ticks_in (mode.Until ticks) = Some ticks

-- for how many ticks the call waits at most
abbrev pub ticks_of : Call → Option ℕ
ticks_of (call.Sleep ticks) = Some ticks
ticks_of (call.Recv from how) = ticks_in how
ticks_of _ = None

-- the timer of a thread that waits from now on for so many ticks
abbrev pub timers_by : State → ℕ → Option ℕ → List TimerRow
timers_by s t None = []
timers_by s t (Some ticks) = timer_for s t ticks ∷ []

-- the timer that the call asks for, of the thread whose turn it is
abbrev pub timers_of_call : State → Option ℕ → Call → List TimerRow
timers_of_call s None c = []
timers_of_call s (Some t) c = timers_by s t (ticks_of c)

-- after a step there is no timer but those before it and the one that its call asks for; a delivery sets none
pub record TimersAreAsked (s : State) (p : TimerRow → Bool) : Type 0 where
  pub called : (c : Call) → count_by p (step s c).after.timers ≤ count_by p (s.timers ++ timers_of_call s (choice s) c)
  pub delivered : (e : ℕ) (text : List ℕ) → count_by p (deliver s e text).after.timers ≤ count_by p s.timers

abbrev pub NoTimerComesUnasked : Type 0
NoTimerComesUnasked = (s : State) (p : TimerRow → Bool) → TimersAreAsked s p
