use Rattle.std.proofs.Common.{◌≡◌}
use Rattle.tests_of_inlets.proofs.ports.take_some.Given as goal

abbrev pub invariant-loop : goal.invariant-loop
invariant-loop g l =
    (goal.iterator-loop g).can_next l.iterator'
    × (goal.iterator-loop g).is_finite l.iterator'
    × (l.taker.port ≡ l.fn.taker.port)
