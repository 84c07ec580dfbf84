use Rattle.tests_of_inlets.proofs.three_clients.drain.Given as goal
use Rattle.script_run.specs.Ties.{IsTied}
use Rattle.std.proofs.Common.{vec_len, ◌≡◌}

abbrev pub invariant-loop-place : goal.invariant-loop-place
invariant-loop-place g l = IsTied l.outside × (vec_len l.outside.inlets ≡ vec_len l.fn.outside.inlets)
