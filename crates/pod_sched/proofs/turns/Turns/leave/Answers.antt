use Rattle.pod_sched.proofs.HeldLemmas.{in_limit, in_slots, is_key, known_at}
use Rattle.pod_sched.proofs.LeaveLemmas.{IsHeld-left, key_of_slots, view_left}
use Rattle.pod_sched.proofs.turns.Turns.leave.Goals as goal

pub known_place-slot-requires-clause-known : goal.known_place-slot-requires-clause-known
known_place-slot-requires-clause-known c = known_at c.self.inside.slots c.self.inside.order c.self.inside.rows.items _ _ _ _
    c.self.inside.maxpri c.self.inside.places c.self.invariant c.args.tid (rw (← c.self.view_is) at c.requires)

pub move_to_back-requires-clause-is_key : goal.move_to_back-requires-clause-is_key
move_to_back-requires-clause-is_key c = key_of_slots c.self.inside.slots c.self.inside.order c.self.inside.rows.items _ _ _ _
    c.self.inside.maxpri c.self.inside.places c.self.invariant c.args.tid _ c.known_place-slot.ensures

pub move_to_back-requires-clause-in_limit : goal.move_to_back-requires-clause-in_limit
move_to_back-requires-clause-in_limit c = in_slots c.self.inside.slots c.self.inside.order c.self.inside.rows.items _ _ _ _
    c.self.inside.maxpri c.self.inside.places c.self.invariant c.args.tid _ c.known_place-slot.ensures

pub take-requires-2-clause-is_key : goal.take-requires-2-clause-is_key
take-requires-2-clause-is_key c = is_key c.self.inside.slots c.self.inside.order c.self.inside.rows.items _ _ _ _ c.self.inside.maxpri
    c.self.inside.places c.self.invariant c.args.tid _ c.known_place-slot.ensures

pub take-requires-2-clause-in_limit : goal.take-requires-2-clause-in_limit
take-requires-2-clause-in_limit c = in_limit c.self.inside.slots c.self.inside.order c.self.inside.rows.items _ _ _ _ c.self.inside.maxpri
    c.self.inside.places c.self.invariant c.args.tid _ c.known_place-slot.ensures

pub invariant_of-self : goal.invariant_of-self
invariant_of-self c =
    rw (c.move_to_back.ensures, c.take-2.ensures, c.take.ensures.width)
    (IsHeld-left c.self.inside.slots c.self.inside.order c.self.inside.rows.items _ _ _ _ c.self.inside.maxpri c.self.inside.places
    c.self.invariant c.args.tid _ c.known_place-slot.ensures _ _ _ c.take.ensures.puts c.take.ensures.count c.take.ensures.room)

pub returns : goal.returns
returns c = rw (c.move_to_back.ensures, c.take-2.ensures, ← c.self.view_is) (view_left c.self.inside.slots c.self.inside.order
    c.self.inside.rows.items _ _ _ _ c.self.inside.maxpri c.self.inside.places c.self.invariant c.args.tid _ c.known_place-slot.ensures)
