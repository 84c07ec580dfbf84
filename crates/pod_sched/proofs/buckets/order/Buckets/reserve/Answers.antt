use Rattle.pod_sched.proofs.BucketLaws.KeptLemmas.{IsKept-more}
use Rattle.pod_sched.proofs.buckets.order.Buckets.reserve.Goals as goal
use Rattle.std.proofs.Common.{arith, length, refl, rules, ◌≤◌}

pub invariant_of-self-2 : goal.invariant_of-self-2
invariant_of-self-2 c =
    let longer : length c.self.inside.prios.items ≤ c.args.keys = omega arith in
    rw (c.in_ok-reserve.ensures.ok, c.in_ok-reserve-2.ensures.ok, c.in_ok-extend.ensures.ok)
    (IsKept-more c.self.inside.order c.self.inside.ready c.self.inside.prios.items c.self.inside.marks c.self.inside.levels c.self.invariant
    _ c.args.keys refl longer)

pub returns-then-keys-len-clause-has_room : goal.returns-then-keys-len-clause-has_room
returns-then-keys-len-clause-has_room c = search rules
