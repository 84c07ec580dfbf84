use Rattle.std.proofs.Common.{[], ◌≡◌}
use Rattle.std.specs.Prelude.{replicate}
use Rattle.replay.proofs.stock.no_places.Given as goal

abbrev pub invariant-loop : goal.invariant-loop
invariant-loop l = l.places.items ≡ replicate l.counter []
