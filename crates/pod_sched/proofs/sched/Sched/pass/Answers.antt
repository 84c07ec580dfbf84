use Rattle.pod_sched.proofs.TimedLemmas.{IsTimed-passed}
use Rattle.pod_sched.proofs.sched.Sched.pass.Goals as goal

pub invariant_of-self : goal.invariant_of-self
invariant_of-self c = rw c.pass.ensures (IsTimed-passed c.self.invariant c.args.ticks)
