use Rattle.script_run.proofs.opening.vacant_seats.Given as goal
use Rattle.std.proofs.Common.{vec_len, ◌≡◌}

abbrev pub invariant-loop : goal.invariant-loop
invariant-loop l = vec_len l.seats ≡ l.counter
