-- What others do to a thread that attends, in a pod with its own events: with traps before a call and reports after it,
-- and with lines that are trapped.
use Rattle.answer_laws.specs.Sights.{IsDelivered, IsLeft, IsSent, IsWoken, Spares, attends, open_letters}
use Rattle.lwp_types.specs.Choice.{choice}
use Rattle.lwp_types.specs.Counts.{timers_of}
use Rattle.lwp_types.specs.Lawful.{Lawful}
use Rattle.lwp_types.specs.State.{Outcome}
use Rattle.lwp_types.specs.declared.call.Answer.{Answer}
use Rattle.lwp_types.specs.declared.call.Call.{Call}
use Rattle.pod_events.specs.Events.{EventOutcome, EventState, take_event}
use Rattle.pod_events.specs.Rites.{report_text}
use Rattle.pod_events.specs.Step.{event_step}
use Rattle.std.specs.Prelude.{IsTrue, List, None, Option, Some, false, ℕ, ◌==◌, ◌≡◌, ◌⊎◌}

-- of the machine alone
abbrev pub machine_of : EventOutcome → Outcome
machine_of out = record { after = out.after.state; effects = out.effects }

-- a letter that the caller sends, or the report of a death
abbrev pub IsSentOrReported : ℕ → ℕ → Call → Option ℕ → Answer → Type 0
IsSentOrReported t u c from heard = IsSent t u c from heard ⊎ ((dead : ℕ) × IsDelivered (report_text dead) from heard)

-- What a call of another does to a thread that attends and has no timer, the trap that is raised before it and the
-- report after it among that: nothing, unless it waits for a letter, and gets one, or learns that whom it waits for
-- isn't there.
abbrev pub PodsLeaveIt : Type 0
PodsLeaveIt = (es : EventState) → Lawful es.state None → (t u : ℕ) → choice es.state ≡ Some t
    → (t == u) ≡ false → IsTrue (attends es.state u) → timers_of es.state.timers u ≡ 0 → open_letters es.state u t ≡ 0
    → (c : Call) → Spares es.state u c
    → IsLeft u es.state (machine_of (event_step es c))
    ⊎ IsWoken u (IsSentOrReported t u c) es.state (machine_of (event_step es c))

-- and so does a line that is taken
abbrev pub TakesLeaveIt : Type 0
TakesLeaveIt = (es : EventState) → Lawful es.state None → (u : ℕ) → IsTrue (attends es.state u)
    → timers_of es.state.timers u ≡ 0 → (e : ℕ) (text : List ℕ)
    → IsLeft u es.state (machine_of (take_event es e text))
    ⊎ IsWoken u (IsDelivered text) es.state (machine_of (take_event es e text))
