use Rattle.lwp_explore.proofs.listing.list_kinds.Given as goal
use Rattle.lwp_explore.specs.Listing.{listed_in, numbers_in}
use Rattle.std.proofs.Common.{map, take, ◌≡◌}

abbrev pub invariant-loop-place : goal.invariant-loop-place
invariant-loop-place l = l.listed.items ≡ map (listed_in l.numbers) (numbers_in (take l.place l.numbers))
