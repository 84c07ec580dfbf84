-- Who is gone stays gone in a pod with its own events, and nobody is born twice.
use Rattle.lwp_types.specs.declared.call.Call.{Call}
use Rattle.pod_events.proofs.Carried.{call_keeps, take_keeps}
use Rattle.pod_events.specs.Events.{EventState, rites_event, take_event}
use Rattle.pod_events.specs.Step.{event_step}
use Rattle.lwp_types.specs.Agents.{deliver}
use Rattle.pod_laws.proofs.Fading.{Fades, deliver_fades, fades_still, fades_then, step_fades}
use Rattle.std.proofs.Common.{List, ℕ}

module _ (n : ℕ) where
  pub event_fades : (es : EventState) (c : Call) → Fades n es.state (event_step es c).after.state
  event_fades es c = call_keeps (Fades n es.state)
      (λ s arms text fades. fades_then n es.state s (deliver s rites_event text).after fades (deliver_fades n s rites_event text)) es c
      (λ t chosen free. step_fades n es.state c) (λ t chosen d own. step_fades n es.state d) (fades_still n es.state)

  pub take_fades : (es : EventState) (e : ℕ) (text : List ℕ) → Fades n es.state (take_event es e text).after.state
  take_fades es e text = take_keeps (Fades n es.state) es e text (λ free. deliver_fades n es.state e text) (fades_still n es.state)
