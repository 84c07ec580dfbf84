use Rattle.script_run.proofs.outside.lines_in_all.Given as goal
use Rattle.std.proofs.Common.{length, sum_by, take, ◌≡◌}

abbrev pub invariant-loop-of_client : goal.invariant-loop-of_client
invariant-loop-of_client l = l.lines ≡ sum_by (λ v. length v.items) (take l.of_client-index l.texts)
