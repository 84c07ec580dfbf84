use Rattle.std.proofs.Common.{arith, sym, ◌∙◌}
use Rattle.trace_lines.proofs.NumberLemmas.{starts_short}
use Rattle.trace_lines.proofs.words.starts.Goals as goal

pub returns-then-i-line : goal.returns-then-i-line
returns-then-i-line c = sym (starts_short c.args.front.now c.args.line.now c.loop-i.i (omega arith) (omega arith)) ∙ c.loop-i.invariant
