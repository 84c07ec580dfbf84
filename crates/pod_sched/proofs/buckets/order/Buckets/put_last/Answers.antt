use Rattle.pod_sched.proofs.BucketLaws.KeptLemmas.{last_reassigned}
use Rattle.pod_sched.specs.Buckets.Order.{Order, after_put_last}
use Rattle.pod_sched.proofs.buckets.order.Buckets.put_last.Goals as goal
use Rattle.pod_sched.proofs.buckets.order.Buckets.put_last.Goals.{then-read-prio, else-read-prio}
use Rattle.std.proofs.Common.{ap, ◌∙◌}

pub returns : goal.returns
returns c = elim c.if-read-prio.branch [
  | then-read-prio w
      ↦ c.requeue.ensures ∙ ap (λ (v : Order). after_put_last v c.args.key c.args.prio) (w.self-is ∙ w.reassign.ensures)
      ∙ last_reassigned c.args.self.now c.args.key c.args.prio
  | else-read-prio w ↦ c.requeue.ensures ∙ ap (λ (v : Order). after_put_last v c.args.key c.args.prio) w.self-is
]
