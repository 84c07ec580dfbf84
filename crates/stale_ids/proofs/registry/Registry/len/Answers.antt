use Rattle.std.proofs.Common.{arith}
use Rattle.stale_ids.proofs.IndexLemmas.{AreRising-pairs, length-pairs}
use Rattle.stale_ids.proofs.registry.Registry.len.Goals as goal

pub returns-clause-value : goal.returns-clause-value
returns-clause-value g c =
    let longer = length-pairs c.self.inside.values.slots c.self.inside.index.items c.self.invariant.full in
    rw (← c.self.view_is) (omega arith)

pub returns-clause-rising : goal.returns-clause-rising
returns-clause-rising g c =
    rw (← c.self.view_is) (AreRising-pairs c.self.inside.values.slots c.self.inside.index.items c.self.invariant.rising)
