use Rattle.death_cleanup.proofs.Draining.{Draining}
use Rattle.death_cleanup.proofs.Refusals.{list}
use Rattle.death_cleanup.proofs.waiters.refuse_senders.Given as goal
use Rattle.death_cleanup.specs.View.{state_of}
use Rattle.lwp_types.specs.Death.{refuse_sender}
use Rattle.pod_laws.proofs.DeathLoops.{Lonely}
use Rattle.std.proofs.Common.{length}

abbrev pub invariant-loop-sender : goal.invariant-loop-sender
invariant-loop-sender l = Draining (Lonely l.tid) (list l.tid) refuse_sender 0 l.fn.parts l.fn.effects l.parts l.effects

abbrev pub decreases-loop-sender : goal.decreases-loop-sender
decreases-loop-sender l = length (list l.tid (state_of l.parts))
