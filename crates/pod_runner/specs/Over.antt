-- When a session is over, and how it ended.
use Rattle.event_gate.specs.Shelves.{Shelves, first_left}
use Rattle.lwp_types.specs.Choice.{choice}
use Rattle.pod_events.specs.Events.{EventState, is_takeable}
use Rattle.trace_text.specs.declared.ends.Halt.{Halt}
use Rattle.trace_text.specs.declared.ends.Halt.TheVariants.{Ended, Spent, Stuck}
use Rattle.std.specs.List.{list_any, range_with_len}
use Rattle.std.specs.Prelude.{Bool, List, None, Option, Some, if◌then◌else◌, is_some, nat_le, ℕ, ◌&&◌}

-- the events there are; event 0 is the clock
unfoldable pub events : List ℕ
events = range_with_len 0 32

-- a line of the event is left, and can be delivered
abbrev pub can_take : EventState → Shelves → ℕ → Bool
can_take es left e = is_takeable es e && is_some (first_left left e)

-- some event has a line that can be delivered
abbrev pub is_wanted : EventState → Shelves → Bool
is_wanted es left = list_any (λ e. can_take es left e) events

-- while the pod goes on: with nobody to run, a session is stuck unless a line can be taken; with somebody, it goes on
-- until all calls allowed were made
abbrev pub halt_if : ℕ → ℕ → Bool → Option ℕ → Option Halt
halt_if turns calls wanted None = if wanted then None else Some Stuck
halt_if turns calls wanted (Some t) = if nat_le turns calls then Some Spent else None

-- how a session has ended, if it has: from the calls allowed, the pod, the calls made and the lines left
abbrev pub over : ℕ → EventState → ℕ → Shelves → Option Halt
over turns es calls left = if es.state.ended then Some (Ended es.state.status)
    else halt_if turns calls (is_wanted es left) (choice es.state)
