use Rattle.std.proofs.Common.{drop, ◌+◌, ◌≡◌}
use Rattle.batch.specs.Parts.{line_length}
use Rattle.lwp_serve.proofs.replaying.input.line_length.Given as goal

abbrev pub invariant-loop-i : goal.invariant-loop-i
invariant-loop-i l = l.i + line_length (drop l.i l.text) ≡ line_length l.text
