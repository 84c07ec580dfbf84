use Rattle.std.proofs.Common.{◌≡◌, All}
use Rattle.tests_of_inlets.proofs.ports.take_in_all.Given as goal

abbrev pub invariant-loop-handle : goal.invariant-loop-handle
invariant-loop-handle g l =
    (goal.iterator-loop-handle g).can_next l.handle-iterator
    × (goal.iterator-loop-handle g).is_finite l.handle-iterator
    × All (λ h. h.promise.taker.value.port ≡ l.fn.taker.port) l.handle-iterator.rest.items
    × (l.taker.port ≡ l.fn.taker.port)
