use Rattle.pod_sched.proofs.ReadLemmas.{firsts_within, given_finds, given_is_choice}
use Rattle.pod_sched.proofs.turns.Turns.current_counted.Goals as goal

pub first_of_last-requires-clause-within : goal.first_of_last-requires-clause-within
first_of_last-requires-clause-within g c = rw (← c.self.view_is)
    (firsts_within c.self.inside.slots c.self.inside.order c.self.inside.rows.items _ _ _ _ c.self.inside.maxpri c.self.inside.places c.self.invariant)

pub returns-clause-value : goal.returns-clause-value
returns-clause-value g c = rw (← c.self.view_is) (given_is_choice c.self.inside.slots c.self.inside.order c.self.inside.rows.items _ _ _ _
    c.self.inside.maxpri c.self.inside.places c.self.invariant c.first_of_last.result (rw (← c.self.view_is) at c.first_of_last.ensures.value))

pub returns-clause-first_best : goal.returns-clause-first_best
returns-clause-first_best g c = rw (← c.self.view_is) (given_finds c.self.inside.slots c.self.inside.order c.self.inside.rows.items _ _ _ _
    c.self.inside.maxpri c.self.inside.places c.self.invariant c.first_of_last.result (rw (← c.self.view_is) at c.first_of_last.ensures.value))
