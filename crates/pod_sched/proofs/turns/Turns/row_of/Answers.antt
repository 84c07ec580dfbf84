use Rattle.pod_sched.proofs.HeldLemmas.{in_rows, is_slot, thread, thread_at}
use Rattle.pod_sched.specs.Slots.{row_at}
use Rattle.pod_sched.proofs.turns.Turns.row_of.Goals as goal
use Rattle.std.proofs.Common.{ap, option_map, sym, ◌∙◌}

pub returns-in_err-slot : goal.returns-in_err-slot
returns-in_err-slot c =
    rw (← c.self.view_is) (c.from_residual.ensures
    ∙ sym (thread_at c.self.inside.slots c.self.inside.order c.self.inside.rows.items _ _ _ _ c.self.inside.maxpri c.self.inside.places
    c.self.invariant c.args.tid
    ∙ ap (option_map (row_at c.self.inside.rows.items)) (sym c.in_err-slot.ensures)))

pub row_at-requires-clause-is_slot : goal.row_at-requires-clause-is_slot
row_at-requires-clause-is_slot c = is_slot c.self.inside.slots c.self.inside.order c.self.inside.rows.items _ _ _ _ c.self.inside.maxpri
    c.self.inside.places c.self.invariant c.args.tid _ (sym c.in_ok-slot.ensures)

pub row_at-requires-clause-in_range : goal.row_at-requires-clause-in_range
row_at-requires-clause-in_range c = in_rows c.self.inside.slots c.self.inside.order c.self.inside.rows.items _ _ _ _ c.self.inside.maxpri
    c.self.inside.places c.self.invariant c.args.tid _ (sym c.in_ok-slot.ensures)

pub returns : goal.returns
returns c = rw (← c.self.view_is, c.row_at.ensures)
    (sym (thread c.self.inside.slots c.self.inside.order c.self.inside.rows.items _ _ _ _ c.self.inside.maxpri c.self.inside.places
    c.self.invariant c.args.tid _ (sym c.in_ok-slot.ensures)))
