use Rattle.pod_sched.proofs.ReadLemmas.{word_says}
use Rattle.pod_sched.proofs.turns.TurnsLooksTid.word.Goals as goal

pub returns-clause-value : goal.returns-clause-value
returns-clause-value g c = rw (← c.self.view_is) (word_says c.self.inside.slots c.self.inside.order c.self.inside.rows.items _ _ _ _
    c.self.inside.maxpri c.self.inside.places c.self.invariant c.word.result c.args.at c.word.ensures.value)
