use Rattle.line_server.specs.Keys.{table_numbers}
use Rattle.std.proofs.Common.{flat_map, length, map, ◌++◌, ◌∷◌, ◌≡◌}
use Rattle.std.specs.Map.Iter.{deref_pair}
use Rattle.line_server.proofs.store.put_tables.Given as goal

abbrev pub invariant-loop-sender : goal.invariant-loop-sender
invariant-loop-sender l = l.key ≡ l.fn.key ++ length l.tables.entries ∷ flat_map table_numbers (map deref_pair l.yielded)
