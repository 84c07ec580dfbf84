use Rattle.pod_sched.proofs.BucketLaws.KeptLemmas.{IsKept-reassigned, without_twice}
use Rattle.pod_sched.specs.Buckets.Order.{Order}
use Rattle.lists.specs.ChainLists.{items, without}
use Rattle.pod_sched.proofs.buckets.order.Buckets.reassign.Goals as goal
use Rattle.std.proofs.Common.{ap, length, ◌+◌, ◌<◌, ◌∙◌, ◌≡◌, ◌≤◌}

pub invariant_of-self : goal.invariant_of-self
invariant_of-self c =
    let was = c.self.view_is ∙ c.take.ensures in
    let is_key : c.self.inside.levels ≤ c.args.key = rw (ap (λ (v : Order). v.levels) was) c.requires.is_key in
    let k_in : c.args.key
    < c.self.inside.levels
    + length c.self.inside.prios.items = rw (ap (λ (v : Order). v.levels) was, ap (λ (v : Order). v.prios) was) c.requires.in_limit in
    let low : c.args.prio < c.self.inside.levels = rw (ap (λ (v : Order). v.levels) was) c.requires.low in
    let gone : without c.args.key (items c.self.inside.order 0)
    ≡ items c.self.inside.order 0 = rw (ap (λ (v : Order). v.order) was) (without_twice c.args.key c.args.self.now.order) in
    IsKept-reassigned c.self.inside.order c.self.inside.ready c.self.inside.prios.items c.self.inside.marks c.self.inside.levels
    c.self.invariant c.args.key is_key c.args.prio k_in low gone
