use Rattle.c_pods.proofs.origins.first_made.Given as goal
use Rattle.c_pods.specs.Origins.{first_made}
use Rattle.std.proofs.Common.{drop, ◌≡◌}

abbrev pub invariant-loop-i : goal.invariant-loop-i
invariant-loop-i l = first_made l.effects ≡ first_made (drop l.i l.effects)
