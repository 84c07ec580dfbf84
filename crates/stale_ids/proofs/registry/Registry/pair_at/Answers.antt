use Rattle.std.proofs.Common.{arith, ap, sym, ◌∙◌}
use Rattle.stale_ids.proofs.IndexLemmas.{All-at, length-pairs}
use Rattle.stale_ids.proofs.CopyLemmas.{pair}
use Rattle.stale_ids.proofs.registry.Registry.pair_at.Goals as goal

pub index-place-requires : goal.index-place-requires
index-place-requires g c =
    let longer = length-pairs c.self.inside.values.slots c.self.inside.index.items c.self.invariant.full in
    let within = rw (← c.self.view_is) at c.requires in
    omega arith

pub index-requires : goal.index-requires
index-requires g c =
    let longer = length-pairs c.self.inside.values.slots c.self.inside.index.items c.self.invariant.full in
    let within = rw (← c.self.view_is) at c.requires in
    rw (← c.index-place.ensures) at (All-at _ c.self.inside.index.items c.args.at c.index-place.result.now (omega arith) c.self.invariant.full)

pub returns : goal.returns
returns g c =
    let longer = length-pairs c.self.inside.values.slots c.self.inside.index.items c.self.invariant.full in
    let within = rw (← c.self.view_is) at c.requires in
    rw (← c.self.view_is) (pair c.self.inside.values.slots c.self.inside.index.items c.args.at c.index-place.result.now c.index.result.now
    c.self.invariant.full (omega arith) c.index-place.ensures c.index.ensures)
