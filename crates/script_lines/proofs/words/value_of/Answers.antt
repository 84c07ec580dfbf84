use Rattle.std.proofs.Common.{arith}
use Rattle.script_lines.proofs.WordLemmas.{value_of_too_large}
use Rattle.script_lines.proofs.words.value_of.Goals as goal

pub returns-then-next-gt4294967295 : goal.returns-then-next-gt4294967295
returns-then-next-gt4294967295 c =
    value_of_too_large c.loop-b.n c.loop-b.b-index c.args.digits.now (omega arith) c.loop-b.invariant.value (omega arith)
