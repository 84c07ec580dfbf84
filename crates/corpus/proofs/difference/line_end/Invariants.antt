use Rattle.std.proofs.Common.{◌≡◌, ◌+◌, drop}
use Rattle.corpus.specs.Lines.{line_end}
use Rattle.corpus.proofs.difference.line_end.Given as goal

abbrev pub invariant-loop-i : goal.invariant-loop-i
invariant-loop-i l = l.i + line_end (drop l.i l.text) ≡ line_end l.text
