use Rattle.std.proofs.Common.{arith}
use Rattle.stale_ids.proofs.IndexLemmas.{length-pairs, inserted_pairs, IsSound-insert}
use Rattle.stale_ids.proofs.registry.Registry.add.Goals as goal

pub insert_reserved-slot-requires : goal.insert_reserved-slot-requires
insert_reserved-slot-requires g c =
    let sound = c.self.invariant in
    let longer = length-pairs c.self.inside.values.slots c.self.inside.index.items sound.full in
    let fits = rw (← c.self.view_is) at c.requires.room in
    omega (arith, sound.counted, sound.values_fit)

pub push_reserved-requires : goal.push_reserved-requires
push_reserved-requires g c =
    let sound = c.self.invariant in
    let longer = length-pairs c.self.inside.values.slots c.self.inside.index.items sound.full in
    let fits = rw (← c.self.view_is) at c.requires.room in
    omega (arith, sound.places_fit)

pub invariant_of-self : goal.invariant_of-self
invariant_of-self g c =
    let sound = c.self.invariant in
    let longer = length-pairs c.self.inside.values.slots c.self.inside.index.items sound.full in
    let fits = rw (← c.self.view_is) at c.requires.room in
    let below = rw (← c.self.view_is) at c.requires.below in
    let put = c.insert_reserved-slot.ensures in
    rw (c.push_reserved.ensures.items, c.push_reserved.ensures.capacity, put.capacity)
    (IsSound-insert _ _ _ c.args.value _ _ sound.full put.was_vacant put.updates.changed put.updates.others _ _ _ _ sound (omega arith)
    (λ same. omega (arith, below)) put.len)

pub returns : goal.returns
returns g c =
    let put = c.insert_reserved-slot.ensures in
    rw (
      ← c.self.view_is,
      c.push_reserved.ensures.items,
      inserted_pairs c.self.inside.values.slots c.insert_reserved-slot.new.self.slots c.insert_reserved-slot.result c.args.value
          c.self.inside.index.items c.self.inside.births c.self.invariant.full put.was_vacant put.updates.changed put.updates.others,
    )
