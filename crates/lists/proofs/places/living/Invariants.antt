use Rattle.std.proofs.Common.{drop, ◌++◌, ◌≡◌}
use Rattle.lists.proofs.places.living.Given as goal
use Rattle.lists.specs.Living.{living}

abbrev pub invariant-loop-place : goal.invariant-loop-place
invariant-loop-place g l = living l.places ≡ l.copies ++ living (drop l.place-index l.places)
