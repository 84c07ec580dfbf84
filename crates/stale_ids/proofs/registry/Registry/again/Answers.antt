use Rattle.std.proofs.Common.{arith, ◌<◌, ◌≤◌}
use Rattle.stale_ids.proofs.CopyLemmas.{all-at, all-dropped, copied_next}
use Rattle.stale_ids.proofs.registry.Registry.again.Goals as goal

pub skip_to-requires-clause-later : goal.skip_to-requires-clause-later
skip_to-requires-clause-later g c =
    all-dropped (λ p. c.loop-at.copy.births ≤ p.0) c.args.self.now.live c.loop-at.at _ c.loop-at.invariant.before c.pair_at-number.ensures

pub skip_to-requires-clause-most : goal.skip_to-requires-clause-most
skip_to-requires-clause-most g c =
    let born = all-at (λ p. p.0 < c.args.self.now.births) c.args.self.now.live c.loop-at.at _ c.births-births.ensures.born c.pair_at-number.ensures in
    omega (arith, c.births-births.ensures.within, c.loop-at.invariant.limit, c.births-births.ensures.value)

pub add-requires-clause-below : goal.add-requires-clause-below
add-requires-clause-below g c =
    let born = all-at (λ p. p.0 < c.args.self.now.births) c.args.self.now.live c.loop-at.at _ c.births-births.ensures.born c.pair_at-number.ensures in
    rw (c.skip_to.ensures) (omega (arith, c.births-births.ensures.within, c.loop-at.invariant.limit, c.births-births.ensures.value))

pub loop-at-preserved : goal.loop-at-preserved
loop-at-preserved g c =
    rw (c.add.ensures, c.skip_to.ensures, c.in_ok-value.ensures)
    (copied_next c.args.self.now c.loop-at.copy c.loop-at.at c.pair_at-number.result.0 _ c.len-at-end.ensures.rising
    c.births-births.ensures.born c.pair_at-number.ensures c.loop-at.invariant)
