use Rattle.std.proofs.Common.{◌≡◌, drop}
use Rattle.trace_lines.specs.Words.{starts}
use Rattle.trace_lines.proofs.words.starts.Given as goal

abbrev pub invariant-loop-i : goal.invariant-loop-i
invariant-loop-i l = starts (drop l.i l.front) (drop l.i l.line) ≡ starts l.front l.line
