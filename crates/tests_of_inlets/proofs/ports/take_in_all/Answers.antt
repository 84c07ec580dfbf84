use Rattle.std.proofs.Common.{◌≡◌, ◌∙◌, All, ap, subst}
use Rattle.std.proofs.lemmas.List.Elements.{All-tail}
use Rattle.std.specs.declared.thread.PromisedHandle.{PromisedHandle}
use Rattle.event_gate.specs.declared.posts.PostEnd.{PostEnd}
use Rattle.tests_of_inlets.specs.declared.ports.OfPort.{OfPort}
use Rattle.event_gate.specs.Ends.{PortId, Taking}
use Rattle.tests_of_inlets.proofs.ports.take_in_all.Goals as goal

abbrev IsOf : PortId → PromisedHandle PostEnd OfPort → Type 0
IsOf port h = h.promise.taker.value.port ≡ port

pub loop-handle-preserved : goal.loop-handle-preserved
loop-handle-preserved g c = (
  tt,
  tt,
  All-tail (IsOf c.args.taker.now.port) c.in-Some.handle _ (subst (All (IsOf c.args.taker.now.port)) c.in-Some.ensures.steps.0 c.loop-handle.invariant.2),
  ap (λ (t : Taking). t.port) c.take_in.ensures.after ∙ c.loop-handle.invariant.3,
)
