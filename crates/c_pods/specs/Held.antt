-- What the last call or delivery of a pod did.
use Rattle.c_pods.specs.declared.held_pod.HeldPod.{HeldPod}
use Rattle.c_pods.specs.declared.held_pod.Last.{Last}
use Rattle.c_pods.specs.declared.held_pod.Last.TheVariants as last
use Rattle.lwp_types.specs.declared.call.Call.{Call}
use Rattle.lwp_types.specs.declared.call.Effect.{Effect}
use Rattle.lwp_types.specs.declared.call.Effect.TheVariants as effect
use Rattle.pod_events.specs.Events.{EventState}
use Rattle.pod_events.specs.Machine.{current_of}
use Rattle.pod_events.specs.Step.{event_step, leads}
use Rattle.std.specs.Prelude.{List, None, Option, Some, [], ℕ, ◌++◌, ◌∷◌, ◌≡◌}
use Rattle.trace_text.specs.Lines.{step_lines}

-- these effects are those of the call, but for the call itself where it comes first
unfoldable pub Tells : EventState → Call → List Effect → Type 0
Tells es c effects = leads es c ++ effects ≡ (event_step es c).effects

-- a call, by the trap that was to be raised and the thread whose turn it was
abbrev pub called_if : Option ℕ → Option ℕ → Call → Last
called_if (Some event) turn c = last.Trapped
called_if None None c = last.Nothing
called_if None (Some t) c = last.Called t c

-- what was done last, after a call
abbrev pub last_called : EventState → Call → Last
last_called es c = called_if es.pending (current_of es.state) c

-- the lines of the trace of what was done last
abbrev pub last_lines : Last → List Effect → List (List ℕ) → List ℕ
last_lines last.Nothing effects names = []
last_lines (last.Called t c) effects names = step_lines names None (effect.Called t c ∷ effects)
last_lines last.Trapped effects names = step_lines names None effects
last_lines (last.Took line) effects names = step_lines names (Some line) effects

-- the lines that a pod holds in the end
abbrev pub lines_of : HeldPod → List ℕ
lines_of held = last_lines held.last held.effects held.names
