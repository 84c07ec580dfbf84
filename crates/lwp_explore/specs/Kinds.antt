-- How sessions end, by their cores.
use Rattle.event_gate.specs.Clients.{of}
use Rattle.lwp_explore.specs.Cores.{World, call_made, count_at, steps_at, takes_at}
use Rattle.lwp_explore.specs.declared.kinds.End.{End}
use Rattle.lwp_explore.specs.declared.kinds.End.TheVariants as end
use Rattle.lwp_explore.specs.declared.kinds.Kind.{Kind}
use Rattle.pod_events.specs.Events.{has_turn}
use Rattle.session_cores.specs.Core.{Core}
use Rattle.std.specs.List.{list_any}
use Rattle.std.specs.Prelude.{Bool, List, None, Option, Some, [], if◌then◌else◌, length, nat_lt, option_and_then, suc, zero, ℕ, ◌&&◌, ◌+◌, ◌-◌, ◌==◌, ◌∷◌, ◌≡◌}
use Rattle.trace_text.specs.declared.ends.Halt.{Halt}
use Rattle.trace_text.specs.declared.ends.Halt.TheVariants as halt

-- ---- over

-- how many lines are left of clients with these events, counted from c
abbrev pub left_from : {B : Type 0} → World B → Core B → ℕ → List ℕ → List ℕ
left_from world core c [] = []
left_from world core c (e ∷ events) =
    (length (of c world.posts) - count_at core.taken c) ∷ left_from world core (c + 1) events

-- how many lines of each client are left
abbrev pub lines_left : {B : Type 0} → World B → Core B → List ℕ
lines_left world core = left_from world core 0 world.events

-- some client has lines that were not taken
abbrev pub has_left : {B : Type 0} → World B → Core B → Bool
has_left world core = list_any (λ n. nat_lt 0 n) (lines_left world core)

-- how a session is over that has this core, if it is: the pod has ended, or no step can be made
abbrev pub halt_of : {B : Type 0} → World B → Core B → Option Halt
halt_of world core = if core.pod.state.ended then Some (halt.Ended core.pod.state.status)
    else if length (steps_at world core) == 0 then Some halt.Stuck
    else None

-- ---- for ever

-- where the call leads, if it is the only step
abbrev pub only_call : {B : Type 0} → World B → Core B → Option (Core B)
only_call world core = if length (takes_at world core) == 0 && has_turn core.pod.state then Some (call_made world core).to else None

-- where so many calls lead, each of which is the only step
abbrev pub only_calls : {B : Type 0} → World B → ℕ → Core B → Option (Core B)
only_calls world zero core = Some core
only_calls world (suc n) core = option_and_then (only_calls world n) (only_call world core)

-- calls alone lead back to it, and no line can be taken on the way
abbrev pub IsEndless : {B : Type 0} → World B → Core B → Type 0
IsEndless world core = (n : ℕ) × (only_calls world (suc n) core ≡ Some core)

-- ---- kinds

-- a session with this core ends so
abbrev pub EndsSo : {B : Type 0} → World B → Core B → End → Type 0
EndsSo world core (end.Ended status) = halt_of world core ≡ Some (halt.Ended status)
EndsSo world core end.Stuck = halt_of world core ≡ Some halt.Stuck
EndsSo world core end.Endless = IsEndless world core

-- and lines are left, or none are
pub record IsOfKind {B : Type 0} (world : World B) (core : Core B) (kind : Kind) : Type 0 where
  pub ends : EndsSo world core kind.end
  pub left : has_left world core ≡ kind.left
