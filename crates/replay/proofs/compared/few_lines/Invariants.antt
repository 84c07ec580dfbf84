use Rattle.std.specs.Prelude.{take, ◌≡◌}
use Rattle.replay.specs.Recorded.{line_count}
use Rattle.replay.proofs.compared.few_lines.Given as goal

abbrev pub invariant-loop-i : goal.invariant-loop-i
invariant-loop-i l = l.lines ≡ line_count (take l.i l.bytes)
