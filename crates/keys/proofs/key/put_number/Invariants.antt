use Rattle.keys.specs.Spelling.{number_bytes}
use Rattle.std.proofs.Common.{◌++◌, ◌≡◌}
use Rattle.keys.proofs.key.put_number.Given as goal

abbrev pub invariant-loop-rest : goal.invariant-loop-rest
invariant-loop-rest l = l.bytes.items ++ number_bytes l.rest ≡ l.fn.bytes.items ++ number_bytes l.fn.number

abbrev pub decreases-loop-rest : goal.decreases-loop-rest
decreases-loop-rest l = l.rest
