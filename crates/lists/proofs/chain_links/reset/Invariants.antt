use Rattle.lists.proofs.chain_links.reset.Given as goal
use Rattle.lists.specs.ChainLinks.{no_link}
use Rattle.std.proofs.Common.{get_or, length, vec_capacity, ℕ, ◌<◌, ◌≡◌}

abbrev pub invariant-loop-place : goal.invariant-loop-place
invariant-loop-place l = record {
  alone : (x : ℕ) → x < l.place → get_or l.links.items x no_link ≡ record { next = x; prev = x };
  len : length l.links.items ≡ length l.fn.links.items;
  capacity : vec_capacity l.links ≡ vec_capacity l.fn.links;
}
