use Rattle.pod_sched.proofs.BucketLaws.KeptLemmas.{IsKept-taken}
use Rattle.pod_sched.proofs.buckets.order.Buckets.take.Goals as goal

pub invariant_of-self : goal.invariant_of-self
invariant_of-self c =
    let is_key = rw (← c.self.view_is) at c.requires.is_key in
    let marked = rw (c.is_some-some.ensures, c.first.ensures.value, c.read-prio.ensures, c.remove-2.ensures) at c.mark.ensures in
    rw (c.remove.ensures, c.remove-2.ensures)
    (IsKept-taken c.self.inside.order c.self.inside.ready c.self.inside.prios.items c.self.inside.marks c.self.inside.levels
    c.self.invariant c.args.key is_key c.mark.new.words c.mark.array_long marked)
