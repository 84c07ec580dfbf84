use Rattle.lists.specs.Living.{living}
use Rattle.rendezvous.proofs.letters.copied.Given as goal
use Rattle.std.proofs.Common.{drop, ◌++◌, ◌≡◌}

abbrev pub invariant-loop-slot : goal.invariant-loop-slot
invariant-loop-slot l = living l.slots ≡ l.letters ++ living (drop l.slot-index l.slots)
