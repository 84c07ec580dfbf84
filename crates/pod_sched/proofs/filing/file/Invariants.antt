use Rattle.lists.specs.ChainLists.{items}
use Rattle.lists.specs.ThreadIndex.{count_of, place_of, width_of}
use Rattle.pod_sched.proofs.FilingLemmas.{AreFiled}
use Rattle.pod_sched.proofs.filing.file.Given as goal
use Rattle.pod_sched.specs.Slots.{row_at}
use Rattle.std.proofs.Common.{length, ◌-◌, ◌≡◌}

abbrev pub invariant-loop-next : goal.invariant-loop-next
invariant-loop-next l = record {
  filed : AreFiled (row_at l.rows.items) (items l.slots 0) (place_of l.index) (count_of l.index) l.next;
  width : width_of l.index ≡ width_of l.fn.index;
  room : l.index.room ≡ l.fn.index.room;
}

abbrev pub decreases-loop-next : goal.decreases-loop-next
decreases-loop-next l = length (items l.slots 0) - count_of l.index
