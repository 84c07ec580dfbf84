use Rattle.std.proofs.Common.{◌≡◌, ◌+◌, drop}
use Rattle.trace_lines.specs.Words.{digits}
use Rattle.trace_lines.proofs.words.digits.Given as goal

abbrev pub invariant-loop-i : goal.invariant-loop-i
invariant-loop-i l = l.i + digits (drop l.i l.bytes) ≡ digits l.bytes
