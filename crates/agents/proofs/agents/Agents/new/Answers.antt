use Rattle.agents.proofs.KeptLemmas.{IsKept-none}
use Rattle.agents.proofs.agents.Agents.new.Goals as goal

pub invariant_of-result : goal.invariant_of-result
invariant_of-result c = rw (c.new.ensures.items, c.new-4.ensures) (IsKept-none c.new-2.ensures c.new-3.ensures _)
