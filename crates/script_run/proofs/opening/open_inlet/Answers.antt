use Rattle.script_run.proofs.opening.open_inlet.Goals as goal
use Rattle.script_run.specs.Inlets.{is_lane}
use Rattle.script_run.specs.Ties.{any_intake}
use Rattle.std.proofs.Common.{All, Bool, IfOk, arith, length, ne_eqb, subst, sym, ◌<◌, ◌≡◌}

pub open_for_one-requires-clause-rooms : goal.open_for_one-requires-clause-rooms
open_for_one-requires-clause-rooms g c = subst (All (λ b. b < length c.args.rooms.now)) c.in-Some.ensures c.requires.rooms 0 0 (omega arith)

pub open_for_one-requires-clause-seats : goal.open_for_one-requires-clause-seats
open_for_one-requires-clause-seats g c =
    let rooms : c.in-Some.client
    < length c.args.rooms.now = subst (All (λ b. b < length c.args.rooms.now)) c.in-Some.ensures c.requires.rooms 0 0 (omega arith) in
    let seats = c.requires.seats in
    omega (arith, rooms, seats)

pub open_for_many-requires-clause-seats : goal.open_for_many-requires-clause-seats
open_for_many-requires-clause-seats g c = λ k d lt.
    let rooms = c.requires.rooms k d lt in
    let seats = c.requires.seats in
    omega (arith, rooms, seats)

pub returns-in-Some-clause-inlet : goal.returns-in-Some-clause-inlet
returns-in-Some-clause-inlet g c = rw c.in-Some.ensures c.open_for_one.ensures.inlet

pub returns-in-Some-clause-seats : goal.returns-in-Some-clause-seats
returns-in-Some-clause-seats g c = rw c.in-Some.ensures c.open_for_one.ensures.seats

pub returns-in_default-clause-inlet : goal.returns-in_default-clause-inlet
returns-in_default-clause-inlet g c = c.open_for_many.ensures.inlet

pub returns-in_default-clause-seats : goal.returns-in_default-clause-seats
returns-in_default-clause-seats g c = c.open_for_many.ensures.seats

pub returns-in-Some-clause-lane : goal.returns-in-Some-clause-lane
returns-in-Some-clause-lane g c = rw c.in-Some.ensures c.open_for_one.ensures.lane

pub returns-in_default-clause-lane : goal.returns-in_default-clause-lane
returns-in_default-clause-lane g c = subst (λ (b : Bool). IfOk c.open_for_many.result (λ r. is_lane (any_intake r).place ≡ b))
    (sym (ne_eqb (length c.args.clients.now) 1 c.in_default.ensures)) c.open_for_many.ensures.port
