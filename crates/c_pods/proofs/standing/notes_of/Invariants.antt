use Rattle.c_pods.proofs.standing.notes_of.Given as goal
use Rattle.c_pods.specs.Standing.{note_of}
use Rattle.std.proofs.Common.{map, take, ◌≡◌}

abbrev pub invariant-loop-began : goal.invariant-loop-began
invariant-loop-began l = l.notes ≡ map note_of (take l.began-index l.entries)
