use Rattle.pod_sched.proofs.BucketLaws.KeptLemmas.{IsKept-again, view_again}
use Rattle.pod_sched.specs.Buckets.Order.{after_put_last}
use Rattle.pod_sched.proofs.buckets.order.Buckets.requeue.Goals as goal
use Rattle.std.proofs.Common.{ap, ◌∙◌}

pub invariant_of-self : goal.invariant_of-self
invariant_of-self c =
    rw (c.move_to_back.ensures, c.move_to_back-2.ensures)
    (IsKept-again c.self.inside.order c.self.inside.ready c.self.inside.prios.items c.self.inside.marks c.self.inside.levels
    c.self.invariant c.args.key (rw (← c.self.view_is) at c.requires.is_key) c.args.prio (rw (← c.self.view_is) at c.requires.low)
    (rw (← c.self.view_is) at c.requires.same) c.mark.new.words c.mark.array_long c.mark.ensures)

pub returns : goal.returns
returns c =
    rw c.move_to_back.ensures
    (view_again c.self.inside.order c.self.inside.ready c.self.inside.prios.items c.self.inside.marks c.self.inside.levels c.self.invariant
    c.args.key (rw (← c.self.view_is) at c.requires.is_key) c.args.prio (rw (← c.self.view_is) at c.requires.low) (rw (← c.self.view_is) at c.requires.same)
    ∙ ap (λ v. after_put_last v c.args.key c.args.prio) c.self.view_is)
