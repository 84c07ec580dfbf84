use Rattle.event_gate.specs.Shelves.{event_of}
use Rattle.script_run.proofs.opening.clients_of.Given as goal
use Rattle.std.proofs.Common.{eqb, filter, ◌≡◌}
use Rattle.std.specs.List.{range_with_len}

abbrev pub invariant-loop-client : goal.invariant-loop-client
invariant-loop-client l = l.clients.items ≡ filter (λ c. eqb (event_of l.fn.events c) l.fn.event) (range_with_len 0 l.client)
