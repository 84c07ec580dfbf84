use Rattle.state_text.specs.Text.{client_lines}
use Rattle.std.proofs.Common.{drop, ◌++◌, ◌≡◌}
use Rattle.state_text.proofs.clients.add_clients.Given as goal

abbrev pub invariant-loop-i : goal.invariant-loop-i
invariant-loop-i l = l.out.items ++ client_lines l.taken l.i (drop l.i l.clients) ≡ l.initial.out.items ++ client_lines l.taken 0 l.clients
