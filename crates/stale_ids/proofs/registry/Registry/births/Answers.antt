use Rattle.stale_ids.proofs.IndexLemmas.{All-pairs}
use Rattle.stale_ids.proofs.registry.Registry.births.Goals as goal

pub returns-clause-born : goal.returns-clause-born
returns-clause-born g c =
    rw (← c.self.view_is) (All-pairs _ c.self.inside.values.slots c.self.inside.index.items c.self.invariant.born)
