use Rattle.lwp_types.specs.CountLaws.{one}
use Rattle.std.proofs.Common.{ap, arith}
use Rattle.std.proofs.lemmas.List.Sums.{sum_by-remove}
use Rattle.lists.proofs.waiting_list.keys.change.Goals as goal
use Rattle.lists.specs.WaitingList.Keys.{is_key}

pub returns-then-is_some-clause-counts : goal.returns-then-is_some-clause-counts
returns-then-is_some-clause-counts c =
    let at = c.place_of-at.ensures in
    λ k. omega (
      arith,
      c.change_in_piece.ensures.counts k,
      sum_by-remove (λ l. one (is_key k l)) c.args.keys.now.items c.place_of-at.result c.args.key at.within,
      ap (λ l. one (is_key k l)) at.here,
    )

pub returns-else-is_some-clause-counts : goal.returns-else-is_some-clause-counts
returns-else-is_some-clause-counts c =
    let at = c.place_of-at.ensures in
    λ k. omega (
      arith,
      c.change_in_ring.ensures.counts k,
      sum_by-remove (λ l. one (is_key k l)) c.args.keys.now.items c.place_of-at.result c.args.key at.within,
      ap (λ l. one (is_key k l)) at.here,
    )
