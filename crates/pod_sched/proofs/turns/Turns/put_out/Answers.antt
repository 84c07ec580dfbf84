use Rattle.pod_sched.proofs.HeldLemmas.{IsHeld-out, in_limit, in_rows, is_key, is_slot, known_at, view_out}
use Rattle.pod_sched.proofs.turns.Turns.put_out.Goals as goal

pub known_place-slot-requires-clause-known : goal.known_place-slot-requires-clause-known
known_place-slot-requires-clause-known c = known_at c.self.inside.slots c.self.inside.order c.self.inside.rows.items _ _ _ _
    c.self.inside.maxpri c.self.inside.places c.self.invariant c.args.tid (rw (← c.self.view_is) at c.requires.known)

pub put_row-requires-clause-is_slot : goal.put_row-requires-clause-is_slot
put_row-requires-clause-is_slot c = is_slot c.self.inside.slots c.self.inside.order c.self.inside.rows.items _ _ _ _ c.self.inside.maxpri
    c.self.inside.places c.self.invariant c.args.tid _ c.known_place-slot.ensures

pub put_row-requires-clause-in_range : goal.put_row-requires-clause-in_range
put_row-requires-clause-in_range c = in_rows c.self.inside.slots c.self.inside.order c.self.inside.rows.items _ _ _ _ c.self.inside.maxpri
    c.self.inside.places c.self.invariant c.args.tid _ c.known_place-slot.ensures

pub take-requires-clause-is_key : goal.take-requires-clause-is_key
take-requires-clause-is_key c = is_key c.self.inside.slots c.self.inside.order c.self.inside.rows.items _ _ _ _ c.self.inside.maxpri
    c.self.inside.places c.self.invariant c.args.tid _ c.known_place-slot.ensures

pub take-requires-clause-in_limit : goal.take-requires-clause-in_limit
take-requires-clause-in_limit c = in_limit c.self.inside.slots c.self.inside.order c.self.inside.rows.items _ _ _ _ c.self.inside.maxpri
    c.self.inside.places c.self.invariant c.args.tid _ c.known_place-slot.ensures

pub invariant_of-self : goal.invariant_of-self
invariant_of-self c =
    rw c.take.ensures (IsHeld-out c.self.inside.slots c.self.inside.order c.self.inside.rows.items _ _ _ _ c.self.inside.maxpri
    c.self.inside.places c.self.invariant c.args.tid _ c.known_place-slot.ensures c.put_row.new.rows.items c.put_row.ensures.len
    c.args.row c.put_row.ensures.changes c.requires.same
    (record { least = c.requires.least; most = rw (← c.self.view_is) at c.requires.most }) c.requires.out)

pub returns : goal.returns
returns c =
    rw (c.take.ensures, ← c.self.view_is) (view_out c.self.inside.slots c.self.inside.order c.self.inside.rows.items _ _ _ _
    c.self.inside.maxpri c.self.inside.places c.self.invariant c.args.tid _ c.known_place-slot.ensures c.put_row.new.rows.items
    c.put_row.ensures.len c.args.row c.put_row.ensures.changes c.requires.same)
