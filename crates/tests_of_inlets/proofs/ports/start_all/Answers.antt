use Rattle.std.proofs.Common.{◌≡◌, ◌∙◌, [], All, ap, sym, subst}
use Rattle.std.proofs.lemmas.List.Elements.{All-push, All-tail}
use Rattle.std.specs.declared.thread.PromisedHandle.{PromisedHandle}
use Rattle.event_gate.specs.declared.posts.PostEnd.{PostEnd}
use Rattle.tests_of_inlets.specs.declared.ports.OfPort.{OfPort}
use Rattle.event_gate.specs.Ends.{PortId, Posting}
use Rattle.tests_of_inlets.proofs.ports.start_all.Goals as goal

abbrev Handle : Type 0
Handle = PromisedHandle PostEnd OfPort

abbrev IsNew : PortId → Posting → Type 0
IsNew port p = (p.port ≡ port) × (p.posted ≡ [])

abbrev IsOf : PortId → Handle → Type 0
IsOf port h = h.promise.taker.value.port ≡ port

pub loop-poster-preserved : goal.loop-poster-preserved
loop-poster-preserved g c = (
  All-tail (IsNew c.args.taker.now.port) c.in-Some.poster _ (subst (All (IsNew c.args.taker.now.port)) c.in-Some.ensures.steps.0 c.loop-poster.invariant.0),
  subst (All (IsOf c.args.taker.now.port)) (sym c.in_ok-push.ensures.items)
      (All-push (IsOf c.args.taker.now.port) c.loop-poster.handles.items c.in-Ok.handle c.loop-poster.invariant.1
      (ap (λ (p : OfPort). p.taker.value.port) c.in-Ok.ensures.there ∙ ap (λ t. t.port) c.of.ensures)),
)
