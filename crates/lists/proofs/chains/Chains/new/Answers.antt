use Rattle.lists.proofs.ChainSound.{IsSound-new, lists_new}
use Rattle.lists.proofs.chains.Chains.new.Goals as goal

pub invariant_of-result : goal.invariant_of-result
invariant_of-result c = rw c.grow.ensures.len at (IsSound-new c.grow.new.links.items (rw c.in_ok-links.ensures.items at c.grow.ensures.grows))

pub returns : goal.returns
returns c = rw (← c.grow.ensures.len) (lists_new c.grow.new.links.items (rw c.in_ok-links.ensures.items at c.grow.ensures.grows))
