use Rattle.script_run.proofs.Seats.{open_none}
use Rattle.script_run.proofs.opening.open_all.Goals as goal
use Rattle.script_run.specs.Opening.{AreOpen}
use Rattle.script_run.specs.Ties.{any_intake}
use Rattle.script_run.specs.declared.inlet.AnyInlet.{AnyInlet}
use Rattle.std.proofs.Common.{List, arith, map, subst, sym, ℕ, ◌≡◌}

pub loop-event-init : goal.loop-event-init
loop-event-init g c =
    let size = c.in_ok-seats.seats.ok.0 in
    let as_many = c.in_ok-seats.ensures in
    subst (λ (inlets : List AnyInlet). AreOpen c.args.events.now c.args.rooms.now 0 (map any_intake inlets) c.in_ok-seats.seats.items)
    (sym c.new-inlets.ensures.items)
    (open_none c.args.events.now c.args.rooms.now c.in_ok-seats.seats.items (omega (arith, size, as_many)))

pub open_event-requires-clause-before : goal.open_event-requires-clause-before
open_event-requires-clause-before g c = c.loop-event.invariant

pub loop-event-smaller : goal.loop-event-smaller
loop-event-smaller g c =
    let more = c.loop-event-test.true in
    omega (arith, more)

pub loop-event-preserved : goal.loop-event-preserved
loop-event-preserved g c = c.in_ok-open_event.ensures

pub returns : goal.returns
returns g c =
    let past = c.loop-event-test.false in
    let within = c.loop-event.auto.event-end in
    let last : c.loop-event.event ≡ 32 = omega (arith, past, within) in
    subst (λ (e : ℕ). AreOpen c.args.events.now c.args.rooms.now e (map any_intake c.loop-event.inlets.items) c.loop-event.seats.items) last
    c.loop-event.invariant
