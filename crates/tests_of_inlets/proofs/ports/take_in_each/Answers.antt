use Rattle.std.proofs.Common.{◌≡◌, ◌∙◌, [], All, ap, subst}
use Rattle.std.proofs.lemmas.List.Elements.{All-tail}
use Rattle.event_gate.specs.Ends.{PortId, Posting, Taking}
use Rattle.tests_of_inlets.proofs.ports.take_in_each.Goals as goal

abbrev IsNew : PortId → Posting → Type 0
IsNew port p = (p.port ≡ port) × (p.posted ≡ [])

pub loop-poster-preserved : goal.loop-poster-preserved
loop-poster-preserved g c = (
  tt,
  tt,
  All-tail (IsNew c.args.taker.now.port) c.in-Some.poster _ (subst (All (IsNew c.args.taker.now.port)) c.in-Some.ensures.steps.0 c.loop-poster.invariant.2),
  ap (λ (t : Taking). t.port) c.take_in.ensures.after ∙ c.loop-poster.invariant.3,
)
