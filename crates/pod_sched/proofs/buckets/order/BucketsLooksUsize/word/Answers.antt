use Rattle.pod_sched.proofs.BucketLaws.KeptLemmas.{word_says}
use Rattle.pod_sched.proofs.buckets.order.BucketsLooksUsize.word.Goals as goal

pub returns-clause-value : goal.returns-clause-value
returns-clause-value g c i i_in =
    rw (← c.self.view_is) (word_says c.self.inside.order c.self.inside.ready c.self.inside.prios.items c.self.inside.marks
    c.self.inside.levels c.self.invariant c.args.at i c.requires i_in)
