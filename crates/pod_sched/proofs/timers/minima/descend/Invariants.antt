use Rattle.std.proofs.Common.{◌-◌}
use Rattle.pod_sched.proofs.TimerLaws.MinimaLemmas.{Descends}
use Rattle.pod_sched.proofs.timers.minima.descend.Given as goal

abbrev pub invariant-loop-level : goal.invariant-loop-level
invariant-loop-level l = Descends l.nodes.items l.width l.now (l.height - l._level) l.at
