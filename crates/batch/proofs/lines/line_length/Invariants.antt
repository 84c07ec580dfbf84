use Rattle.std.proofs.Common.{drop, ◌+◌, ◌≡◌}
use Rattle.batch.specs.Parts.{line_length}
use Rattle.batch.proofs.lines.line_length.Given as goal

abbrev pub invariant-loop-i : goal.invariant-loop-i
invariant-loop-i l = l.i + line_length (drop l.i l.bytes) ≡ line_length l.bytes
