use Rattle.death_cleanup.proofs.Draining.{Draining}
use Rattle.death_cleanup.proofs.Waits.{change, list}
use Rattle.death_cleanup.proofs.waiters.dismiss.Given as goal
use Rattle.death_cleanup.specs.Named.{IsGap, run_number}
use Rattle.death_cleanup.specs.Ties.{HasLawfulThreads}
use Rattle.death_cleanup.specs.View.{state_of}
use Rattle.std.proofs.Common.{length}

abbrev pub invariant-loop-other : goal.invariant-loop-other
invariant-loop-other l = record {
  drains : Draining HasLawfulThreads (list l.what l.tid) (change l.what l.tid) 0 l.fn.parts l.fn.effects l.parts l.effects;
  start : IsGap (run_number l.what l.tid) 0 l.parts.named.waits l.at;
}

abbrev pub decreases-loop-other : goal.decreases-loop-other
decreases-loop-other l = length (list l.what l.tid (state_of l.parts))
