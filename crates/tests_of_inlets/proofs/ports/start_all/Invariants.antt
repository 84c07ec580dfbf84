use Rattle.std.proofs.Common.{◌≡◌, [], All}
use Rattle.tests_of_inlets.proofs.ports.start_all.Given as goal

abbrev pub invariant-loop-poster : goal.invariant-loop-poster
invariant-loop-poster g l =
    All (λ p. (p.port ≡ l.fn.taker.port) × (p.posted ≡ [])) l.poster-iterator.rest.items
    × All (λ h. h.promise.taker.value.port ≡ l.fn.taker.port) l.handles.items
