use Rattle.std.proofs.Common.{take, ◌≡◌, ◌≤◌}
use Rattle.script_run.specs.Clients.{count_taken}
use Rattle.script_run.proofs.clients.count_taken.Given as goal

abbrev pub invariant-loop-i : goal.invariant-loop-i
invariant-loop-i l = (l.count ≡ count_taken l.client (take l.i l.played.takes)) × (l.count ≤ l.i)
