use Rattle.pod_sched.proofs.BucketLaws.KeptLemmas.{first_sorted}
use Rattle.pod_sched.proofs.buckets.order.Buckets.first_in.Goals as goal
use Rattle.std.proofs.Common.{◌∙◌}

pub returns : goal.returns
returns c =
    rw (← c.self.view_is) (c.first.ensures.value
    ∙ first_sorted c.self.inside.order c.self.inside.ready c.self.inside.prios.items c.self.inside.marks c.self.inside.levels
    c.self.invariant c.args.prio (rw (← c.self.view_is) at c.requires.low))
