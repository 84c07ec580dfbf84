use Rattle.pod_sched.proofs.BeforeLemmas.{IsHeld-before, eligible_known, same_weight, slots_differ, view_before}
use Rattle.pod_sched.proofs.HeldLemmas.{in_limit, is_key, known_at}
use Rattle.pod_sched.specs.Held.{schedule_of}
use Rattle.std.proofs.lemmas.Bool.{eqb-false}
use Rattle.pod_sched.proofs.turns.Turns.yield_to.Goals as goal
use Rattle.std.proofs.Common.{sym, ◌∙◌}

pub known_place-slot-requires-clause-known : goal.known_place-slot-requires-clause-known
known_place-slot-requires-clause-known c = known_at c.self.inside.slots c.self.inside.order c.self.inside.rows.items _ _ _ _
    c.self.inside.maxpri c.self.inside.places c.self.invariant c.args.from
    (eligible_known (schedule_of c.self.inside.slots c.self.inside.order c.self.inside.rows.items c.self.inside.maxpri c.self.inside.places)
    c.args.from (rw (← c.self.view_is) at c.requires.from_may_run))

pub known_place-other-requires-clause-known : goal.known_place-other-requires-clause-known
known_place-other-requires-clause-known c = known_at c.self.inside.slots c.self.inside.order c.self.inside.rows.items _ _ _ _
    c.self.inside.maxpri c.self.inside.places c.self.invariant c.args.to
    (eligible_known (schedule_of c.self.inside.slots c.self.inside.order c.self.inside.rows.items c.self.inside.maxpri c.self.inside.places)
    c.args.to (rw (← c.self.view_is) at c.requires.to_may_run))

pub put_before-requires-clause-is_key : goal.put_before-requires-clause-is_key
put_before-requires-clause-is_key c = is_key c.self.inside.slots c.self.inside.order c.self.inside.rows.items _ _ _ _ c.self.inside.maxpri
    c.self.inside.places c.self.invariant c.args.to _ c.known_place-other.ensures

pub put_before-requires-clause-in_limit : goal.put_before-requires-clause-in_limit
put_before-requires-clause-in_limit c = in_limit c.self.inside.slots c.self.inside.order c.self.inside.rows.items _ _ _ _
    c.self.inside.maxpri c.self.inside.places c.self.invariant c.args.to _ c.known_place-other.ensures

pub put_before-requires-clause-other_is_key : goal.put_before-requires-clause-other_is_key
put_before-requires-clause-other_is_key c = is_key c.self.inside.slots c.self.inside.order c.self.inside.rows.items _ _ _ _
    c.self.inside.maxpri c.self.inside.places c.self.invariant c.args.from _ c.known_place-slot.ensures

pub put_before-requires-clause-other_in_limit : goal.put_before-requires-clause-other_in_limit
put_before-requires-clause-other_in_limit c = in_limit c.self.inside.slots c.self.inside.order c.self.inside.rows.items _ _ _ _
    c.self.inside.maxpri c.self.inside.places c.self.invariant c.args.from _ c.known_place-slot.ensures

pub put_before-requires-clause-same_prio : goal.put_before-requires-clause-same_prio
put_before-requires-clause-same_prio c =
    same_weight c.self.inside.slots c.self.inside.order c.self.inside.rows.items _ _ _ _ c.self.inside.maxpri c.self.inside.places
    c.self.invariant c.args.from _ c.known_place-slot.ensures (rw (← c.self.view_is) at c.requires.from_may_run) c.args.to _
    c.known_place-other.ensures (rw (← c.self.view_is) at c.requires.to_may_run) (rw (← c.self.view_is) at c.requires.same_prio)

pub put_before-requires-clause-differs : goal.put_before-requires-clause-differs
put_before-requires-clause-differs c =
    slots_differ c.self.inside.slots c.self.inside.order c.self.inside.rows.items _ _ _ _ c.self.inside.maxpri c.self.inside.places
    c.self.invariant c.args.from _ c.known_place-slot.ensures (rw (← c.self.view_is) at c.requires.from_may_run) c.args.to _
    c.known_place-other.ensures (rw (← c.self.view_is) at c.requires.to_may_run) (eqb-false _ _ (sym c.eq.ensures ∙ c.if-eq.false))

pub invariant_of-self : goal.invariant_of-self
invariant_of-self c = rw c.put_before.ensures
    (IsHeld-before c.self.inside.slots c.self.inside.order c.self.inside.rows.items _ _ _ _ c.self.inside.maxpri c.self.inside.places
    c.self.invariant c.args.from _ c.known_place-slot.ensures (rw (← c.self.view_is) at c.requires.from_may_run) c.args.to _
    c.known_place-other.ensures (rw (← c.self.view_is) at c.requires.to_may_run) (eqb-false _ _ (sym c.eq.ensures ∙ c.if-eq.false)))

pub returns-else-eq : goal.returns-else-eq
returns-else-eq c = rw (c.put_before.ensures, ← c.self.view_is)
    (view_before c.self.inside.slots c.self.inside.order c.self.inside.rows.items _ _ _ _ c.self.inside.maxpri c.self.inside.places
    c.self.invariant c.args.from _ c.known_place-slot.ensures (rw (← c.self.view_is) at c.requires.from_may_run) c.args.to _
    c.known_place-other.ensures (rw (← c.self.view_is) at c.requires.to_may_run) (eqb-false _ _ (sym c.eq.ensures ∙ c.if-eq.false)))

pub returns-then-eq : goal.returns-then-eq
returns-then-eq c = rw (sym c.eq.ensures ∙ c.if-eq.true) c.requeue.ensures
