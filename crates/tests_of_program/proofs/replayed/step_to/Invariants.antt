use Rattle.std.proofs.Common.{◌≡◌, false}
use Rattle.tests_of_program.proofs.replayed.step_to.Given as goal

abbrev pub invariant-loop : goal.invariant-loop
invariant-loop l = l.run.failed ≡ false
