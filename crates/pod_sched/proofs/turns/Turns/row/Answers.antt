use Rattle.pod_sched.proofs.HeldLemmas.{has_priority, in_rows, is_slot, known_at, of_thread, thread}
use Rattle.pod_sched.proofs.turns.Turns.row.Goals as goal

pub known_place-slot-requires-clause-known : goal.known_place-slot-requires-clause-known
known_place-slot-requires-clause-known c = known_at c.self.inside.slots c.self.inside.order c.self.inside.rows.items _ _ _ _
    c.self.inside.maxpri c.self.inside.places c.self.invariant c.args.tid (rw (← c.self.view_is) at c.requires)

pub row_at-requires-clause-is_slot : goal.row_at-requires-clause-is_slot
row_at-requires-clause-is_slot c = is_slot c.self.inside.slots c.self.inside.order c.self.inside.rows.items _ _ _ _ c.self.inside.maxpri
    c.self.inside.places c.self.invariant c.args.tid _ c.known_place-slot.ensures

pub row_at-requires-clause-in_range : goal.row_at-requires-clause-in_range
row_at-requires-clause-in_range c = in_rows c.self.inside.slots c.self.inside.order c.self.inside.rows.items _ _ _ _ c.self.inside.maxpri
    c.self.inside.places c.self.invariant c.args.tid _ c.known_place-slot.ensures

pub returns-clause-value : goal.returns-clause-value
returns-clause-value c = rw (← c.self.view_is, c.row_at.ensures) (thread c.self.inside.slots c.self.inside.order c.self.inside.rows.items _
    _ _ _ c.self.inside.maxpri c.self.inside.places c.self.invariant c.args.tid _ c.known_place-slot.ensures)

pub returns-clause-same : goal.returns-clause-same
returns-clause-same c = rw c.row_at.ensures (of_thread c.self.inside.slots c.self.inside.order c.self.inside.rows.items _ _ _ _
    c.self.inside.maxpri c.self.inside.places c.self.invariant c.args.tid _ c.known_place-slot.ensures)

pub returns-clause-least : goal.returns-clause-least
returns-clause-least c = rw c.row_at.ensures (has_priority c.self.inside.slots c.self.inside.order c.self.inside.rows.items _ _ _ _
    c.self.inside.maxpri c.self.inside.places c.self.invariant c.args.tid _ c.known_place-slot.ensures).least

pub returns-clause-most : goal.returns-clause-most
returns-clause-most c = rw (← c.self.view_is, c.row_at.ensures) (has_priority c.self.inside.slots c.self.inside.order
    c.self.inside.rows.items _ _ _ _ c.self.inside.maxpri c.self.inside.places c.self.invariant c.args.tid _ c.known_place-slot.ensures).most
