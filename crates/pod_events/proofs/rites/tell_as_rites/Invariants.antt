use Rattle.pod_events.proofs.rites.tell_as_rites.Given as goal
use Rattle.pod_events.specs.Rites.{as_rites}
use Rattle.std.proofs.Common.{drop, map, take, ◌++◌, ◌≡◌}

-- those before this place are told as reports, and the others are as they were
abbrev pub invariant-loop-i : goal.invariant-loop-i
invariant-loop-i l = l.effects ≡ map (as_rites l.dead) (take l.i l.initial.effects) ++ drop l.i l.initial.effects
