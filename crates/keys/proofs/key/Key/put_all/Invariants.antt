use Rattle.std.proofs.Common.{take, ◌++◌, ◌≡◌}
use Rattle.keys.proofs.key.Key.put_all.Given as goal

abbrev pub invariant-loop-number : goal.invariant-loop-number
invariant-loop-number l = l.self ≡ l.fn.self ++ take l.number-index l.numbers
