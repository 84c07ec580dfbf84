use Rattle.death_cleanup.proofs.copies.threads.Given as goal
use Rattle.death_cleanup.specs.View.{rows_of, state_of}
use Rattle.snapshots.specs.Copies.{row_in}
use Rattle.std.proofs.Common.{drop, map, ◌++◌, ◌≡◌}

abbrev pub invariant-loop-i : goal.invariant-loop-i
invariant-loop-i l = map row_in l.copies ++ rows_of l.parts.last_prio l.parts.sched.threads (drop l.i l.parts.ids.live) ≡ (state_of l.parts).threads
