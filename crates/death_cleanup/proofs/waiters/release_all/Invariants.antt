use Rattle.death_cleanup.proofs.Draining.{Draining}
use Rattle.death_cleanup.proofs.Releases.{Keeps, list}
use Rattle.death_cleanup.proofs.waiters.release_all.Given as goal
use Rattle.death_cleanup.specs.View.{state_of}
use Rattle.lwp_types.specs.MonitorRelease.{release}
use Rattle.std.proofs.Common.{length}

abbrev pub invariant-loop-mon : goal.invariant-loop-mon
invariant-loop-mon l = Draining (Keeps l.tid) (list l.tid) release 1 l.fn.parts l.fn.effects l.parts l.effects

abbrev pub decreases-loop-mon : goal.decreases-loop-mon
decreases-loop-mon l = length (list l.tid (state_of l.parts))
