use Rattle.lists.specs.ThreadIndex.{count_of, place_of, width_of}
use Rattle.pod_sched.proofs.ReserveLemmas.{IsHeld-limit, IsHeld-reserved, IsHeld-widened, few_known, grown, listed, on_err, view_reserved, view_same}
use Rattle.pod_sched.proofs.turns.Turns.reserve.Goals as goal
use Rattle.std.proofs.Common.{arith, ◌+◌, ◌-◌, ◌≡◌}

pub widen-requires-clause-list : goal.widen-requires-clause-list
widen-requires-clause-list c = rw c.in_ok-reserve.ensures.ok (omega (arith, c.self.invariant.lists))

pub widen-requires-clause-listed : goal.widen-requires-clause-listed
widen-requires-clause-listed c =
    let s = c.self.inside in
    let held = grown s.slots s.order s.rows.items (place_of s.index) (count_of s.index) s.index.room (width_of s.index) s.maxpri s.places
    c.self.invariant _ c.in_ok-extend_rows.ensures.kept c.args.n in
    rw c.in_ok-reserve.ensures.ok (listed _ _ _ _ _ _ _ _ _ held)

pub widen-requires-clause-fits : goal.widen-requires-clause-fits
widen-requires-clause-fits c =
    let s = c.self.inside in
    let few = few_known s.slots s.order s.rows.items (place_of s.index) (count_of s.index) s.index.room (width_of s.index) s.maxpri s.places
    c.self.invariant in
    rw c.in_ok-reserve.ensures.ok (omega (arith, few))

pub widen-requires-clause-found : goal.widen-requires-clause-found
widen-requires-clause-found c =
    let s = c.self.inside in
    let held = grown s.slots s.order s.rows.items (place_of s.index) (count_of s.index) s.index.room (width_of s.index) s.maxpri s.places
    c.self.invariant _ c.in_ok-extend_rows.ensures.kept c.args.n in
    rw c.in_ok-reserve.ensures.ok held.are_slots.index

pub widen-requires-clause-count : goal.widen-requires-clause-count
widen-requires-clause-count c = rw c.in_ok-reserve.ensures.ok c.self.invariant.as_long

pub invariant_of-self-2 : goal.invariant_of-self-2
invariant_of-self-2 c =
    let s = c.self.inside in
    let i = c.widen.new.index in
    let count : (256 + c.args.n) - (256 + s.places) ≡ c.args.n - s.places = omega arith in
    let after = rw c.in_ok-reserve.ensures.ok at c.in_ok-widen.ensures in
    rw (c.free_slots.ensures, c.in_ok-reserve.ensures.ok, c.in_ok-reserve-2.ensures.ok)
    (IsHeld-reserved s.slots s.order s.rows.items (place_of s.index) (count_of s.index) s.index.room (width_of s.index) s.maxpri s.places
    c.self.invariant _ c.in_ok-extend_rows.ensures.kept c.args.n (place_of i) (count_of i) i.room (width_of i) after.found after.count
    after.some c.in_ok-extend_rows.ensures.ok after.ok (omega arith) _ count)

pub returns-clause-ok : goal.returns-clause-ok
returns-clause-ok c =
    let s = c.self.inside in
    let i = c.widen.new.index in
    let count : (256 + c.args.n) - (256 + s.places) ≡ c.args.n - s.places = omega arith in
    let after = rw c.in_ok-reserve.ensures.ok at c.in_ok-widen.ensures in
    rw (c.free_slots.ensures, c.in_ok-reserve.ensures.ok, c.in_ok-reserve-2.ensures.ok, ← c.self.view_is)
    (view_reserved s.slots s.order s.rows.items (place_of s.index) (count_of s.index) s.index.room (width_of s.index) s.maxpri s.places
    c.self.invariant _ c.in_ok-extend_rows.ensures.kept c.args.n (place_of i) (count_of i) i.room (width_of i) after.found after.count
    after.some c.in_ok-extend_rows.ensures.ok after.ok (omega arith) _ count)

pub invariant_of-self-in_err-extend_rows : goal.invariant_of-self-in_err-extend_rows
invariant_of-self-in_err-extend_rows c =
    let s = c.self.inside in
    rw (c.in_ok-reserve.ensures.ok, c.in_ok-reserve-2.ensures.ok)
    (grown s.slots s.order s.rows.items (place_of s.index) (count_of s.index) s.index.room (width_of s.index) s.maxpri s.places
    c.self.invariant _ c.in_err-extend_rows.ensures.kept c.args.n)

pub returns-in_err-extend_rows-clause-err : goal.returns-in_err-extend_rows-clause-err
returns-in_err-extend_rows-clause-err c =
    let s = c.self.inside in
    rw (c.in_ok-reserve.ensures.ok, c.in_ok-reserve-2.ensures.ok, ← c.self.view_is)
    (on_err c.from_residual-in_err-extend_rows.result _
    (view_same s.slots s.order s.rows.items (place_of s.index) (count_of s.index) s.index.room (width_of s.index) s.maxpri s.places
    c.self.invariant _ c.in_err-extend_rows.ensures.kept c.args.n))

pub invariant_of-self-in_err-widen : goal.invariant_of-self-in_err-widen
invariant_of-self-in_err-widen c =
    let s = c.self.inside in
    let i = c.widen.new.index in
    let after = rw c.in_ok-reserve.ensures.ok at c.in_err-widen.ensures in
    rw (c.in_ok-reserve.ensures.ok, c.in_ok-reserve-2.ensures.ok)
    (IsHeld-widened s.slots s.order s.rows.items (place_of s.index) (count_of s.index) s.index.room (width_of s.index) s.maxpri s.places
    c.self.invariant _ c.in_ok-extend_rows.ensures.kept c.args.n (place_of i) (count_of i) i.room (width_of i) after.found after.count
    after.some (omega (arith, c.self.invariant.map_room, after.err)))

pub returns-in_err-widen-clause-err : goal.returns-in_err-widen-clause-err
returns-in_err-widen-clause-err c =
    let s = c.self.inside in
    rw (c.in_ok-reserve.ensures.ok, c.in_ok-reserve-2.ensures.ok, ← c.self.view_is)
    (on_err c.from_residual-in_err-widen.result _
    (view_same s.slots s.order s.rows.items (place_of s.index) (count_of s.index) s.index.room (width_of s.index) s.maxpri s.places
    c.self.invariant _ c.in_ok-extend_rows.ensures.kept c.args.n))

pub invariant_of-self : goal.invariant_of-self
invariant_of-self c = rw c.in_err-reserve.ensures.err c.self.invariant

pub invariant_of-self-in_err-reserve-2 : goal.invariant_of-self-in_err-reserve-2
invariant_of-self-in_err-reserve-2 c =
    let s = c.self.inside in
    rw (c.in_ok-reserve.ensures.ok, c.in_err-reserve-2.ensures.err)
    (IsHeld-limit s.slots s.order s.rows.items (place_of s.index) (count_of s.index) s.index.room (width_of s.index) s.maxpri s.places
    c.self.invariant (256 + c.args.n))
