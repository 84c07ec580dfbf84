use Rattle.pod_runner.proofs.snapshot.notes_of.Given as goal
use Rattle.pod_runner.specs.Snapshots.{note_of, taken_of}
use Rattle.std.proofs.Common.{map, take, ◌≡◌}
use Rattle.std.specs.List.{range_with_len}

abbrev pub invariant-loop-row : goal.invariant-loop-row
invariant-loop-row g l = l.notes ≡ map note_of (take l.row-index l.rows)
