use Rattle.std.proofs.Common.{◌-◌}
use Rattle.pod_sched.proofs.TimerLaws.MinimaLemmas.{IsMending}
use Rattle.pod_sched.proofs.timers.minima.put.Given as goal

abbrev pub invariant-loop-at : goal.invariant-loop-at
invariant-loop-at l = IsMending l.fn.nodes.items l.nodes.items l.width l.leaf l.due l.at

abbrev pub decreases-loop-at : goal.decreases-loop-at
decreases-loop-at l = l.at - 1
