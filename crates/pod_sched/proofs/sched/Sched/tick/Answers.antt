use Rattle.pod_sched.proofs.TimedLemmas.{IsTimed-ticked}
use Rattle.pod_sched.proofs.sched.Sched.tick.Goals as goal

pub invariant_of-self : goal.invariant_of-self
invariant_of-self c = rw c.tick.ensures (IsTimed-ticked c.self.invariant)
