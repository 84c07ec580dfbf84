use Rattle.line_server.specs.Keys.{entry_numbers}
use Rattle.std.proofs.Common.{flat_map, length, take, ◌++◌, ◌∷◌, ◌≡◌}
use Rattle.line_server.proofs.entries.put_numbers.Given as goal

abbrev pub invariant-loop-entry : goal.invariant-loop-entry
invariant-loop-entry l = l.key ≡ l.fn.key ++ length l.entries ∷ flat_map entry_numbers (take l.entry-index l.entries)
