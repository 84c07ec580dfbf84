use Rattle.pod_sched.proofs.BucketLaws.KeptLemmas.{first_past}
use Rattle.pod_sched.proofs.buckets.order.Buckets.first_of.Goals as goal
use Rattle.std.proofs.Common.{sym}

pub returns-then-prio-self : goal.returns-then-prio-self
returns-then-prio-self c =
    rw (← c.self.view_is) (sym (first_past c.self.inside.order c.self.inside.ready c.self.inside.prios.items c.self.inside.marks
    c.self.inside.levels c.self.invariant c.args.prio c.if-prio-self.true))
