use Rattle.std.proofs.Common.{◌≡◌, replicate}
use Rattle.event_gate.specs.Shelves.{bare}
use Rattle.event_gate.proofs.rack.Rack.new.Given as goal

abbrev pub invariant-loop : goal.invariant-loop
invariant-loop g l = l.shelves.items ≡ replicate l.counter bare
