use Rattle.std.proofs.Common.{length}
use Rattle.lists.proofs.IndexLemmas.{IsEmpty-bare, IsKept-bare, bare_cells}
use Rattle.lists.proofs.thread_index.Index.clear.Goals as goal

pub returns-clause-empty : goal.returns-clause-empty
returns-clause-empty c = rw (c.clear.ensures.items, c.strip.ensures) (IsEmpty-bare _ _ _ (bare_cells (length c.self.inside.cells.items)))

pub invariant_of-self : goal.invariant_of-self
invariant_of-self c = rw (c.clear.ensures.items, c.strip.ensures)
    (IsKept-bare (length c.self.inside.cells.items) c.self.inside.mask c.self.invariant.indexed.masked)
