use Rattle.lwp_explore.proofs.listing.count_of.Given as goal
use Rattle.lwp_explore.specs.Listing.{has_number}
use Rattle.std.proofs.Common.{take, ◌≡◌, ◌≤◌}
use Rattle.std.specs.List.{count_by}

abbrev pub invariant-loop-place : goal.invariant-loop-place
invariant-loop-place l = (l.count ≡ count_by (has_number l.number) (take l.place l.numbers)) × (l.count ≤ l.place)
