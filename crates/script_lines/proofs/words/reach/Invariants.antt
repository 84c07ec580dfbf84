use Rattle.std.proofs.Common.{◌≡◌, ◌+◌, drop}
use Rattle.script_lines.specs.Words.{reach}
use Rattle.script_lines.proofs.words.reach.Given as goal

abbrev pub invariant-loop-i : goal.invariant-loop-i
invariant-loop-i l = l.i + reach l.byte (drop l.i l.bytes) ≡ reach l.byte l.bytes
