use Rattle.std.proofs.Common.{map, take, ◌≡◌}
use Rattle.script_run.specs.Clients.{counts_of}
use Rattle.script_run.proofs.clients.counts_after.Given as goal

abbrev pub invariant-loop-client : goal.invariant-loop-client
invariant-loop-client l = l.counts.items ≡ counts_of 0 (map (λ v. v.items) (take l.client l.texts)) l.played.takes
