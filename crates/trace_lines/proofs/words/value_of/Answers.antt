use Rattle.std.proofs.Common.{arith}
use Rattle.trace_lines.proofs.NumberLemmas.{value_of_too_large}
use Rattle.trace_lines.proofs.words.value_of.Goals as goal

pub returns-then-next-gt18446744073709551615 : goal.returns-then-next-gt18446744073709551615
returns-then-next-gt18446744073709551615 c =
    value_of_too_large c.loop-b.n c.loop-b.b-index c.args.digits.now (omega arith) c.loop-b.invariant.value (omega arith)
