use Rattle.std.proofs.Common.{◌≡◌, [], All}
use Rattle.tests_of_inlets.proofs.ports.take_in_each.Given as goal

abbrev pub invariant-loop-poster : goal.invariant-loop-poster
invariant-loop-poster g l =
    (goal.iterator-loop-poster g).can_next l.poster-iterator
    × (goal.iterator-loop-poster g).is_finite l.poster-iterator
    × All (λ p. (p.port ≡ l.fn.taker.port) × (p.posted ≡ [])) l.poster-iterator.rest.items
    × (l.taker.port ≡ l.fn.taker.port)
