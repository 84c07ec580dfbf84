use Rattle.lists.proofs.chain_links.grow.Given as goal
use Rattle.lists.specs.ChainLinks.{Grows}
use Rattle.std.proofs.Common.{length, vec_capacity, ◌≡◌}

abbrev pub invariant-loop-place : goal.invariant-loop-place
invariant-loop-place l = record {
  grows : Grows l.fn.links.items l.links.items;
  len : length l.links.items ≡ l.place;
  capacity : vec_capacity l.links ≡ vec_capacity l.fn.links;
}
