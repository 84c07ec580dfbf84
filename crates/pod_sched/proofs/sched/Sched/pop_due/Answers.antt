use Rattle.pod_sched.proofs.TimedLemmas.{IsTimed-popped}
use Rattle.pod_sched.proofs.sched.Sched.pop_due.Goals as goal

pub invariant_of-self : goal.invariant_of-self
invariant_of-self c = rw c.pop.ensures.after (IsTimed-popped c.self.invariant)
