use Rattle.std.proofs.Common.{vec_len, ◌≡◌}
use Rattle.tests_of_inlets.proofs.three_clients.add_texts.Given as goal

abbrev pub invariant-loop : goal.invariant-loop
invariant-loop l = vec_len l.texts ≡ l.counter
