use Rattle.std.proofs.Common.{List, length, map, take, ℕ, ◌≡◌}
use Rattle.replay.proofs.stock.ScriptLinesPosted.counts.Given as goal

abbrev pub invariant-loop-client : goal.invariant-loop-client
invariant-loop-client l = l.counts.items ≡ map (λ (places : List ℕ). length places) (take l.client l.self-inside.places.items)
