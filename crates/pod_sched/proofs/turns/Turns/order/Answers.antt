use Rattle.pod_sched.proofs.ReadLemmas.{all_have_rows}
use Rattle.pod_sched.proofs.turns.Turns.order.Goals as goal

pub tids-requires : goal.tids-requires
tids-requires c =
    let s = c.self.inside in
    all_have_rows s.slots s.order s.rows.items _ _ _ _ s.maxpri s.places c.self.invariant
