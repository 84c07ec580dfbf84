use Rattle.pod_sched.proofs.WalkLemmas.{IsWalked}
use Rattle.pod_sched.proofs.rows.tids.Given as goal
use Rattle.pod_sched.specs.Held.{tid_at}
use Rattle.std.proofs.Common.{drop, length}

abbrev pub invariant-loop-next : goal.invariant-loop-next
invariant-loop-next l = IsWalked (tid_at l.rows.items) l.order.order l.ids l.next

abbrev pub decreases-loop-next : goal.decreases-loop-next
decreases-loop-next l = length (drop (length l.ids) l.order.order)
