use Rattle.std.proofs.Common.{arith}
use Rattle.lists.proofs.WaitingLaws.AlikeLaws.{few_keys}
use Rattle.lists.proofs.WaitingLaws.KeptLaws.{IsKept-known, IsKept-roomier}
use Rattle.lists.proofs.waiting_list.line.WaitingList.reserve.Goals as goal

pub invariant_of-self : goal.invariant_of-self
invariant_of-self c =
    let was = c.self.invariant in
    rw c.reserve.ensures.items (IsKept-roomier c.self.inside.entries.items _ _ _ _ _ _ _ was _ _ _ _
    (omega (arith, was.places_fit, c.reserve.ensures.capacity)) was.ranks_fit was.arrived_fit was.cells was.fits)

pub invariant_of-self-in_err-reserve-2 : goal.invariant_of-self-in_err-reserve-2
invariant_of-self-in_err-reserve-2 c =
    let was = c.self.invariant in
    rw (c.reserve.ensures.items, c.reserve-2.ensures.items) (IsKept-roomier c.self.inside.entries.items _ _ _ _ _ _ _ was _ _ _ _ (omega
    (arith, was.places_fit, c.reserve.ensures.capacity)) (omega (arith, was.ranks_fit, c.reserve-2.ensures.capacity)) was.arrived_fit was.cells was.fits)

pub invariant_of-self-in_err-reserve-3 : goal.invariant_of-self-in_err-reserve-3
invariant_of-self-in_err-reserve-3 c =
    let was = c.self.invariant in
    rw (c.reserve.ensures.items, c.reserve-2.ensures.items, c.reserve-3.ensures.items)
    (IsKept-roomier c.self.inside.entries.items _ _ _ _ _ _ _ was _ _ _ _ (omega (arith, was.places_fit, c.reserve.ensures.capacity))
    (omega (arith, was.ranks_fit, c.reserve-2.ensures.capacity)) (omega (arith, was.arrived_fit, c.reserve-3.ensures.capacity)) was.cells was.fits)

pub widen-requires-clause-once : goal.widen-requires-clause-once
widen-requires-clause-once c = rw c.reserve.ensures.items c.self.invariant.once

pub invariant_of-self-in_err-widen : goal.invariant_of-self-in_err-widen
invariant_of-self-in_err-widen c =
    let was = c.self.invariant in
    let wider = IsKept-known c.self.inside.entries.items _ _ _ _ _ _ _ was c.widen.new.index
    (rw c.reserve.ensures.items at c.widen.ensures.known) (omega (arith, was.cells, c.widen.ensures.more)) c.widen.ensures.room in
    rw (c.reserve.ensures.items, c.reserve-2.ensures.items, c.reserve-3.ensures.items)
    (IsKept-roomier c.self.inside.entries.items _ _ _ _ _ _ _ wider _ _ _ _ (omega (arith, was.places_fit, c.reserve.ensures.capacity))
    (omega (arith, was.ranks_fit, c.reserve-2.ensures.capacity)) (omega (arith, was.arrived_fit, c.reserve-3.ensures.capacity)) wider.cells was.fits)

pub overflow_sub-n-2 : goal.overflow_sub-n-2
overflow_sub-n-2 c =
    let keys = few_keys c.self.inside.entries.items c.self.inside.ranks.items c.self.inside.arrived.items c.self.invariant.indexed.sorted in
    omega (arith, c.len-2.ensures, keys.0, c.self.invariant.fits, c.if-n-self.false, c.self.inside.ranks.ok.0)

pub overflow_sub-n-3 : goal.overflow_sub-n-3
overflow_sub-n-3 c =
    let keys = few_keys c.self.inside.entries.items c.self.inside.ranks.items c.self.inside.arrived.items c.self.invariant.indexed.sorted in
    omega (arith, c.len-3.ensures, keys.1, c.self.invariant.fits, c.if-n-self.false, c.self.inside.arrived.ok.0)

pub invariant_of-self-2 : goal.invariant_of-self-2
invariant_of-self-2 c =
    let was = c.self.invariant in
    let keys = few_keys c.self.inside.entries.items c.self.inside.ranks.items c.self.inside.arrived.items was.indexed.sorted in
    let wider = IsKept-known c.self.inside.entries.items _ _ _ _ _ _ _ was c.widen.new.index
    (rw c.reserve.ensures.items at c.widen.ensures.known) (omega (arith, was.cells, c.widen.ensures.more)) c.widen.ensures.room in
    rw (c.reserve.ensures.items, c.reserve-2.ensures.items, c.reserve-3.ensures.items) (IsKept-roomier c.self.inside.entries.items _ _ _ _ _ _ _ wider _ _ _ _
    (omega (arith, c.in_ok-reserve.ensures.ok, c.len.ensures, c.reserve.ensures.len, was.fits, c.if-n-self.false, c.self.inside.entries.ok.0))
    (omega (
      arith,
      c.in_ok-reserve-2.ensures.ok,
      c.len-2.ensures,
      c.reserve-2.ensures.len,
      keys.0,
      was.fits,
      c.if-n-self.false,
      c.self.inside.entries.ok.0,
      c.self.inside.ranks.ok.0,
    ))
    (omega (
      arith,
      c.in_ok-reserve-3.ensures.ok,
      c.len-3.ensures,
      c.reserve-3.ensures.len,
      keys.1,
      was.fits,
      c.if-n-self.false,
      c.self.inside.entries.ok.0,
      c.self.inside.arrived.ok.0,
    ))
    c.in_ok-widen.ensures.ok
    (omega (arith, was.fits, c.if-n-self.false)))
