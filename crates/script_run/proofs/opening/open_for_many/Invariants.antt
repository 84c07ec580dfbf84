use Rattle.script_run.proofs.Seats.{IsSeating}
use Rattle.script_run.proofs.opening.open_for_many.Given as goal
use Rattle.std.proofs.Common.{map}

abbrev pub invariant-loop-poster : goal.invariant-loop-poster
invariant-loop-poster g l =
    (goal.iterator-loop-poster g).can_next l.poster-iterator
    × (goal.iterator-loop-poster g).is_finite l.poster-iterator
    × IsSeating l.fn.rooms l.fn.index l.port.port l.fn.clients l.poster-iterator.rest.items l.fn.seats.items l.seats.items
