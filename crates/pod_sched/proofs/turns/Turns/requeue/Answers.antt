use Rattle.pod_sched.proofs.BeforeLemmas.{eligible_known}
use Rattle.pod_sched.proofs.HeldLemmas.{in_limit, in_rows, is_key, is_slot, known_at, prio_low}
use Rattle.pod_sched.proofs.RequeueLemmas.{IsHeld-requeued, view_requeued}
use Rattle.pod_sched.proofs.turns.Turns.requeue.Goals as goal
use Rattle.pod_sched.specs.Held.{schedule_of}

pub known_place-slot-requires-clause-known : goal.known_place-slot-requires-clause-known
known_place-slot-requires-clause-known c = known_at c.self.inside.slots c.self.inside.order c.self.inside.rows.items _ _ _ _
    c.self.inside.maxpri c.self.inside.places c.self.invariant c.args.tid
    (eligible_known (schedule_of c.self.inside.slots c.self.inside.order c.self.inside.rows.items c.self.inside.maxpri c.self.inside.places)
    c.args.tid (rw (← c.self.view_is) at c.requires))

pub row_at-prio-requires-clause-is_slot : goal.row_at-prio-requires-clause-is_slot
row_at-prio-requires-clause-is_slot c = is_slot c.self.inside.slots c.self.inside.order c.self.inside.rows.items _ _ _ _
    c.self.inside.maxpri c.self.inside.places c.self.invariant c.args.tid _ c.known_place-slot.ensures

pub row_at-prio-requires-clause-in_range : goal.row_at-prio-requires-clause-in_range
row_at-prio-requires-clause-in_range c = in_rows c.self.inside.slots c.self.inside.order c.self.inside.rows.items _ _ _ _
    c.self.inside.maxpri c.self.inside.places c.self.invariant c.args.tid _ c.known_place-slot.ensures

pub put_last-requires-clause-is_key : goal.put_last-requires-clause-is_key
put_last-requires-clause-is_key c = is_key c.self.inside.slots c.self.inside.order c.self.inside.rows.items _ _ _ _ c.self.inside.maxpri
    c.self.inside.places c.self.invariant c.args.tid _ c.known_place-slot.ensures

pub put_last-requires-clause-in_limit : goal.put_last-requires-clause-in_limit
put_last-requires-clause-in_limit c = in_limit c.self.inside.slots c.self.inside.order c.self.inside.rows.items _ _ _ _ c.self.inside.maxpri
    c.self.inside.places c.self.invariant c.args.tid _ c.known_place-slot.ensures

pub put_last-requires-clause-low : goal.put_last-requires-clause-low
put_last-requires-clause-low c = rw (c.row_at-prio.ensures, c.self.invariant.levels) (prio_low c.self.inside.slots c.self.inside.order
    c.self.inside.rows.items _ _ _ _ c.self.inside.maxpri c.self.inside.places c.self.invariant c.args.tid _ c.known_place-slot.ensures)

pub invariant_of-self : goal.invariant_of-self
invariant_of-self c = rw (c.put_last.ensures, c.row_at-prio.ensures)
    (IsHeld-requeued c.self.inside.slots c.self.inside.order c.self.inside.rows.items _ _ _ _ c.self.inside.maxpri c.self.inside.places
    c.self.invariant c.args.tid _ c.known_place-slot.ensures (rw (← c.self.view_is) at c.requires))

pub returns : goal.returns
returns c = rw (c.put_last.ensures, ← c.self.view_is) (view_requeued c.self.inside.slots c.self.inside.order c.self.inside.rows.items _ _ _
    _ c.self.inside.maxpri c.self.inside.places c.self.invariant c.args.tid _ c.known_place-slot.ensures)
