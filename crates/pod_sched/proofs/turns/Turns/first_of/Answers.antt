use Rattle.pod_sched.proofs.OpLemmas.{first_may_run}
use Rattle.pod_sched.proofs.ReadLemmas.{first_none, first_past, first_some, ready_in_rows, ready_is_slot, ready_found}
use Rattle.pod_sched.proofs.turns.Turns.first_of.Goals as goal
use Rattle.pod_sched.specs.Held.{schedule_of}
use Rattle.std.proofs.Common.{sym, ◌∙◌}

pub returns-then-prio-ge-LEVELS-clause-value : goal.returns-then-prio-ge-LEVELS-clause-value
returns-then-prio-ge-LEVELS-clause-value c = rw (← c.self.view_is) (sym (first_past c.self.inside.slots c.self.inside.order
    c.self.inside.rows.items _ _ _ _ c.self.inside.maxpri c.self.inside.places c.self.invariant c.args.prio c.if-prio-ge-LEVELS.true))

pub returns-in_err-slot-clause-value : goal.returns-in_err-slot-clause-value
returns-in_err-slot-clause-value c = rw (← c.self.view_is) (c.from_residual.ensures
    ∙ sym (first_none c.self.inside.slots c.self.inside.order c.self.inside.rows.items _ _ _ _ c.self.inside.maxpri c.self.inside.places
    c.self.invariant c.args.prio (sym c.in_err-slot.ensures)))

pub row_at-requires-clause-is_slot : goal.row_at-requires-clause-is_slot
row_at-requires-clause-is_slot c = ready_is_slot c.self.inside.slots c.self.inside.order c.self.inside.rows.items _ _ _ _
    c.self.inside.maxpri c.self.inside.places c.self.invariant c.in_ok-slot.slot
    (ready_found c.self.inside.slots c.self.inside.order c.self.inside.rows.items _ _ _ _ c.self.inside.maxpri c.self.inside.places
    c.self.invariant c.in_ok-slot.slot c.args.prio (sym c.in_ok-slot.ensures))

pub row_at-requires-clause-in_range : goal.row_at-requires-clause-in_range
row_at-requires-clause-in_range c = ready_in_rows c.self.inside.slots c.self.inside.order c.self.inside.rows.items _ _ _ _
    c.self.inside.maxpri c.self.inside.places c.self.invariant c.in_ok-slot.slot
    (ready_found c.self.inside.slots c.self.inside.order c.self.inside.rows.items _ _ _ _ c.self.inside.maxpri c.self.inside.places
    c.self.invariant c.in_ok-slot.slot c.args.prio (sym c.in_ok-slot.ensures))

pub returns-clause-value : goal.returns-clause-value
returns-clause-value c =
    rw (← c.self.view_is, c.row_at.ensures) (sym (first_some c.self.inside.slots c.self.inside.order c.self.inside.rows.items _ _ _ _
    c.self.inside.maxpri c.self.inside.places c.self.invariant c.args.prio c.in_ok-slot.slot (sym c.in_ok-slot.ensures)))

pub returns-clause-runs : goal.returns-clause-runs
returns-clause-runs c =
    rw (← c.self.view_is, c.row_at.ensures) (first_may_run (schedule_of c.self.inside.slots c.self.inside.order c.self.inside.rows.items
    c.self.inside.maxpri c.self.inside.places) _ c.args.prio c.self.invariant.ordered (first_some c.self.inside.slots c.self.inside.order
    c.self.inside.rows.items _ _ _ _ c.self.inside.maxpri c.self.inside.places c.self.invariant c.args.prio c.in_ok-slot.slot (sym c.in_ok-slot.ensures)))
