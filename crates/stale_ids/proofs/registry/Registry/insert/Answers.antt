use Rattle.std.proofs.Common.{rules}
use Rattle.stale_ids.proofs.IndexLemmas.{value_of_unborn}
use Rattle.stale_ids.proofs.registry.Registry.insert.Goals as goal

pub returns-then-self-clause-fresh : goal.returns-then-self-clause-fresh
returns-then-self-clause-fresh g c = rw (← c.self.view_is) (value_of_unborn _ _ _ c.self.invariant.born)

pub returns-clause-fresh : goal.returns-clause-fresh
returns-clause-fresh g c = rw (← c.self.view_is) (value_of_unborn _ _ _ c.self.invariant.born)

pub returns-clause-number : goal.returns-clause-number
returns-clause-number g c = search rules

pub returns-clause-at_limit : goal.returns-clause-at_limit
returns-clause-at_limit g c = search rules
