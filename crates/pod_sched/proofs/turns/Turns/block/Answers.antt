use Rattle.pod_sched.proofs.HeldLemmas.{IsHeld-out, has_priority, in_limit, in_rows, is_key, is_slot, known_at, of_thread, thread, view_out}
use Rattle.pod_sched.proofs.OpLemmas.{block_is}
use Rattle.pod_sched.proofs.RequeueLemmas.{blocked_out}
use Rattle.pod_sched.proofs.turns.Turns.block.Goals as goal
use Rattle.pod_sched.specs.Held.{IsPriority, schedule_of}
use Rattle.pod_sched.specs.declared.rows.Known.{Known}
use Rattle.std.proofs.Common.{Some, ap, sym, true, ◌∙◌, ◌≡◌}

pub known_place-slot-requires-clause-known : goal.known_place-slot-requires-clause-known
known_place-slot-requires-clause-known c = known_at c.self.inside.slots c.self.inside.order c.self.inside.rows.items _ _ _ _
    c.self.inside.maxpri c.self.inside.places c.self.invariant c.args.tid (rw (← c.self.view_is) at c.requires)

pub row_at-row-requires-clause-is_slot : goal.row_at-row-requires-clause-is_slot
row_at-row-requires-clause-is_slot c = is_slot c.self.inside.slots c.self.inside.order c.self.inside.rows.items _ _ _ _ c.self.inside.maxpri
    c.self.inside.places c.self.invariant c.args.tid _ c.known_place-slot.ensures

pub row_at-row-requires-clause-in_range : goal.row_at-row-requires-clause-in_range
row_at-row-requires-clause-in_range c = in_rows c.self.inside.slots c.self.inside.order c.self.inside.rows.items _ _ _ _
    c.self.inside.maxpri c.self.inside.places c.self.invariant c.args.tid _ c.known_place-slot.ensures

pub put_row-requires-clause-is_slot : goal.put_row-requires-clause-is_slot
put_row-requires-clause-is_slot c = is_slot c.self.inside.slots c.self.inside.order c.self.inside.rows.items _ _ _ _ c.self.inside.maxpri
    c.self.inside.places c.self.invariant c.args.tid _ c.known_place-slot.ensures

pub put_row-requires-clause-in_range : goal.put_row-requires-clause-in_range
put_row-requires-clause-in_range c = in_rows c.self.inside.slots c.self.inside.order c.self.inside.rows.items _ _ _ _ c.self.inside.maxpri
    c.self.inside.places c.self.invariant c.args.tid _ c.known_place-slot.ensures

pub take-requires-clause-is_key : goal.take-requires-clause-is_key
take-requires-clause-is_key c = is_key c.self.inside.slots c.self.inside.order c.self.inside.rows.items _ _ _ _ c.self.inside.maxpri
    c.self.inside.places c.self.invariant c.args.tid _ c.known_place-slot.ensures

pub take-requires-clause-in_limit : goal.take-requires-clause-in_limit
take-requires-clause-in_limit c = in_limit c.self.inside.slots c.self.inside.order c.self.inside.rows.items _ _ _ _ c.self.inside.maxpri
    c.self.inside.places c.self.invariant c.args.tid _ c.known_place-slot.ensures

pub invariant_of-self : goal.invariant_of-self
invariant_of-self c =
    let row = c.row_at-row.result in
    let same : row.tid
    ≡ c.args.tid = rw c.row_at-row.ensures (of_thread c.self.inside.slots c.self.inside.order c.self.inside.rows.items _ _ _ _
    c.self.inside.maxpri c.self.inside.places c.self.invariant c.args.tid _ c.known_place-slot.ensures) in
    let in_range : IsPriority c.self.inside.maxpri row.prio = rw c.row_at-row.ensures (has_priority c.self.inside.slots c.self.inside.order
    c.self.inside.rows.items _ _ _ _ c.self.inside.maxpri c.self.inside.places c.self.invariant c.args.tid _ c.known_place-slot.ensures) in
    let now : Known = record row { blocked = true } in
    rw c.take.ensures (IsHeld-out c.self.inside.slots c.self.inside.order c.self.inside.rows.items _ _ _ _ c.self.inside.maxpri
    c.self.inside.places c.self.invariant c.args.tid _ c.known_place-slot.ensures c.put_row.new.rows.items c.put_row.ensures.len now
    c.put_row.ensures.changes same in_range (blocked_out row))

pub returns : goal.returns
returns c =
    let row = c.row_at-row.result in
    let same : row.tid
    ≡ c.args.tid = rw c.row_at-row.ensures (of_thread c.self.inside.slots c.self.inside.order c.self.inside.rows.items _ _ _ _
    c.self.inside.maxpri c.self.inside.places c.self.invariant c.args.tid _ c.known_place-slot.ensures) in
    let now : Known = record row { blocked = true } in
    rw (c.take.ensures, ← c.self.view_is)
    (view_out c.self.inside.slots c.self.inside.order c.self.inside.rows.items _ _ _ _ c.self.inside.maxpri c.self.inside.places
    c.self.invariant c.args.tid _ c.known_place-slot.ensures c.put_row.new.rows.items c.put_row.ensures.len now c.put_row.ensures.changes same
    ∙ block_is (schedule_of c.self.inside.slots c.self.inside.order c.self.inside.rows.items c.self.inside.maxpri c.self.inside.places)
    c.args.tid row c.self.invariant.ordered
    (thread c.self.inside.slots c.self.inside.order c.self.inside.rows.items _ _ _ _ c.self.inside.maxpri c.self.inside.places
    c.self.invariant c.args.tid _ c.known_place-slot.ensures
    ∙ ap Some (sym c.row_at-row.ensures)))
