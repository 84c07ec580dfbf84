use Rattle.pod_sched.proofs.BucketLaws.Bits.{top_above, top_set}
use Rattle.pod_sched.proofs.buckets.marks.top_bit.Goals as goal
use Rattle.std.proofs.Common.{rules}

pub returns-clause-set : goal.returns-clause-set
returns-clause-set c = top_set c.args.word c.requires (search rules)

pub returns-clause-above : goal.returns-clause-above
returns-clause-above c = top_above c.args.word c.requires (search rules)
