use Rattle.std.proofs.Common.{◌≡◌, false}
use Rattle.tests_of_program.proofs.replayed.replay.Given as goal

abbrev pub invariant-loop-i : goal.invariant-loop-i
invariant-loop-i l = l.run.failed ≡ false
