use Rattle.lists.proofs.IndexLemmas.{IsEmpty-bare, IsKept-bare, bare_cells}
use Rattle.lists.proofs.thread_index.Index.with_cells.Goals as goal

pub returns-clause-empty : goal.returns-clause-empty
returns-clause-empty c = rw (c.in_ok-with_capacity.ensures.items, c.in_ok-bare.ensures) (IsEmpty-bare _ _ _ (bare_cells c.args.width))

pub invariant_of-result : goal.invariant_of-result
invariant_of-result c = rw (c.in_ok-with_capacity.ensures.items, c.in_ok-bare.ensures) (IsKept-bare c.args.width c.mask_for.result c.mask_for.ensures)
