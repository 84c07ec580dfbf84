use Rattle.std.proofs.Common.{length, take, ◌≡◌}
use Rattle.pod_sched.proofs.timers.shelf.file.Given as goal
use Rattle.lists.specs.ThreadIndex.{width_of}
use Rattle.pod_sched.specs.Timers.Kept.{IsFiled}

abbrev pub invariant-loop-leaf : goal.invariant-loop-leaf
invariant-loop-leaf l = record {
  filed : IsFiled (take l.leaf l.leaves.items) l.dues l.index;
  len : length l.dues ≡ length l.fn.dues;
  width : width_of l.index ≡ width_of l.fn.index;
  room : l.index.room ≡ l.fn.index.room;
}
