use Rattle.script_run.proofs.outside.rooms_of.Given as goal
use Rattle.std.proofs.Common.{length, map, take, ◌≡◌}

abbrev pub invariant-loop-client : goal.invariant-loop-client
invariant-loop-client l = l.rooms.items ≡ map (λ v. length v.items) (take l.client l.texts)
