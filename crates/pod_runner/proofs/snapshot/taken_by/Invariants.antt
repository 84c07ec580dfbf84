use Rattle.pod_runner.proofs.snapshot.taken_by.Given as goal
use Rattle.pod_runner.specs.Snapshots.{note_of, taken_of}
use Rattle.std.proofs.Common.{map, take, ◌≡◌}
use Rattle.std.specs.List.{range_with_len}

abbrev pub invariant-loop-client : goal.invariant-loop-client
invariant-loop-client l = l.counts ≡ map (taken_of l.takes) (range_with_len 0 l.client)
