use Rattle.std.proofs.Common.{arith, refl, sym, ◌∙◌}
use Rattle.std.proofs.lemmas.List.{get_or-map}
use Rattle.stale_ids.proofs.IndexLemmas.{AreRising-pairs, length-pairs, numbers-pairs, value_of_absent}
use Rattle.stale_ids.specs.declared.index.Place.{Place}
use Rattle.stale_ids.proofs.registry.Registry.get_mut.Goals as goal

pub value_at-requires-clause-within : goal.value_at-requires-clause-within
value_at-requires-clause-within g c =
    let at = rw c.deref.ensures.value at c.in-Some.ensures.found in
    let longer = length-pairs c.self.inside.values.slots c.self.inside.index.items c.self.invariant.full in
    rw (← c.self.view_is) (omega (arith, at.within))

pub value_at-requires-clause-here : goal.value_at-requires-clause-here
value_at-requires-clause-here g c =
    let at = rw c.deref.ensures.value at c.in-Some.ensures.found in
    let es = c.self.inside.index.items in
    let none : Place = record { number = 0; slot = 0 } in
    rw (← c.self.view_is, numbers-pairs c.self.inside.values.slots es c.self.invariant.full)
    (get_or-map (λ e. e.number) es c.in-Some.at none 0 at.within ∙ at.here none)

pub returns-in-Some : goal.returns-in-Some
returns-in-Some g c =
    let rises = AreRising-pairs c.self.inside.values.slots c.self.inside.index.items c.self.invariant.rising in
    (refl, record { writes_back = tt; value = sym c.value_at.ensures.value; rising = rw (← c.self.view_is) rises })

pub returns-in-None : goal.returns-in-None
returns-in-None g c =
    let rises = AreRising-pairs c.self.inside.values.slots c.self.inside.index.items c.self.invariant.rising in
    (refl, record { writes_back = tt; value = rw (← c.self.view_is) (sym (value_of_absent _ _ _ (rw c.deref.ensures.value at c.in-None.ensures.absent))); rising = rw (← c.self.view_is) rises })
