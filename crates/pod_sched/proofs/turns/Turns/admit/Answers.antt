use Rattle.pod_sched.proofs.AdmitLemmas.{IsHeld-in, IsHeld-out, free_in_limit, unknown, view_in, view_out}
use Rattle.pod_sched.proofs.turns.Turns.admit.Goals as goal
use Rattle.std.proofs.Common.{sym}

pub put-requires-clause-new : goal.put-requires-clause-new
put-requires-clause-new c = unknown c.self.inside.slots c.self.inside.order c.self.inside.rows.items _ _ _ _ c.self.inside.maxpri
    c.self.inside.places c.self.invariant c.args.tid (rw (← c.self.view_is) at c.requires.new)

pub put_last-requires-clause-in_limit : goal.put_last-requires-clause-in_limit
put_last-requires-clause-in_limit c = free_in_limit c.self.inside.slots c.self.inside.order c.self.inside.rows.items _ _ _ _
    c.self.inside.maxpri c.self.inside.places c.self.invariant c.args.tid (rw (← c.self.view_is) at c.requires.new)
    (rw (← c.self.view_is) at c.requires.room) c.in-Some.slot (sym c.in-Some.ensures.value)

pub invariant_of-self : goal.invariant_of-self
invariant_of-self c =
    rw (c.move_to_back.ensures, c.put_last.ensures, c.put.ensures.width)
    (IsHeld-in c.self.inside.slots c.self.inside.order c.self.inside.rows.items _ _ _ _ c.self.inside.maxpri c.self.inside.places
    c.self.invariant c.args.tid (rw (← c.self.view_is) at c.requires.new) (rw (← c.self.view_is) at c.requires.room) c.in-Some.slot
    (sym c.in-Some.ensures.value) c.put_row.new.rows.items c.put_row.ensures.len c.args.prio c.args.suspended c.put_row.ensures.changes
    c.requires.least (rw (← c.self.view_is) at c.requires.most) _ c.put.ensures.puts _ _ c.put.ensures.count c.put.ensures.room c.if-not-suspended.true)

pub invariant_of-self-else-not-suspended : goal.invariant_of-self-else-not-suspended
invariant_of-self-else-not-suspended c =
    rw (c.move_to_back.ensures, c.put.ensures.width)
    (IsHeld-out c.self.inside.slots c.self.inside.order c.self.inside.rows.items _ _ _ _ c.self.inside.maxpri c.self.inside.places
    c.self.invariant c.args.tid (rw (← c.self.view_is) at c.requires.new) (rw (← c.self.view_is) at c.requires.room) c.in-Some.slot
    (sym c.in-Some.ensures.value) c.put_row.new.rows.items c.put_row.ensures.len c.args.prio c.args.suspended c.put_row.ensures.changes
    c.requires.least (rw (← c.self.view_is) at c.requires.most) _ c.put.ensures.puts _ _ c.put.ensures.count c.put.ensures.room c.if-not-suspended.false)

pub returns-then-not-suspended : goal.returns-then-not-suspended
returns-then-not-suspended c =
    rw (c.move_to_back.ensures, c.put_last.ensures, ← c.self.view_is)
    (view_in c.self.inside.slots c.self.inside.order c.self.inside.rows.items _ _ _ _ c.self.inside.maxpri c.self.inside.places
    c.self.invariant c.args.tid (rw (← c.self.view_is) at c.requires.new) (rw (← c.self.view_is) at c.requires.room) c.in-Some.slot
    (sym c.in-Some.ensures.value) c.put_row.new.rows.items c.put_row.ensures.len c.args.prio c.args.suspended c.put_row.ensures.changes
    c.requires.least (rw (← c.self.view_is) at c.requires.most) _ c.put.ensures.puts _ _ c.put.ensures.count c.put.ensures.room c.if-not-suspended.true)

pub returns-else-not-suspended : goal.returns-else-not-suspended
returns-else-not-suspended c =
    rw (c.move_to_back.ensures, ← c.self.view_is)
    (view_out c.self.inside.slots c.self.inside.order c.self.inside.rows.items _ _ _ _ c.self.inside.maxpri c.self.inside.places
    c.self.invariant c.args.tid (rw (← c.self.view_is) at c.requires.new) (rw (← c.self.view_is) at c.requires.room) c.in-Some.slot
    (sym c.in-Some.ensures.value) c.put_row.new.rows.items c.put_row.ensures.len c.args.prio c.args.suspended c.put_row.ensures.changes
    c.requires.least (rw (← c.self.view_is) at c.requires.most) _ c.put.ensures.puts _ _ c.put.ensures.count c.put.ensures.room c.if-not-suspended.false)
