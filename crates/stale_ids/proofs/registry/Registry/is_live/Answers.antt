use Rattle.std.proofs.Common.{sym, ◌∙◌}
use Rattle.stale_ids.proofs.IndexLemmas.{live_iff}
use Rattle.stale_ids.proofs.IndexLemmas.{AreRising-pairs}
use Rattle.stale_ids.proofs.registry.Registry.is_live.Goals as goal

pub returns-clause-value : goal.returns-clause-value
returns-clause-value g c =
    let place = rw c.deref.ensures.value at c.place_of.ensures in
    let same = live_iff c.self.inside.values.slots c.self.inside.index.items c.self.invariant.rising c.self.invariant.full _ _ place.absent place.found in
    rw (← c.self.view_is) (λ yes. same ∙ sym c.is_some.ensures ∙ yes, λ live. c.is_some.ensures ∙ sym same ∙ live)

pub returns-clause-rising : goal.returns-clause-rising
returns-clause-rising g c =
    rw (← c.self.view_is) (AreRising-pairs c.self.inside.values.slots c.self.inside.index.items c.self.invariant.rising)
