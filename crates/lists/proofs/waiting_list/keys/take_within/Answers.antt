use Rattle.lwp_types.specs.CountLaws.{one}
use Rattle.std.proofs.Common.{ap, arith}
use Rattle.std.proofs.lemmas.List.Edits.{length-remove}
use Rattle.std.proofs.lemmas.List.Sums.{sum_by-remove}
use Rattle.lists.proofs.WaitingLaws.KeyLaws.{IsSorted-remove, key_there, within_there}
use Rattle.lists.proofs.waiting_list.keys.take_within.Goals as goal
use Rattle.lists.specs.WaitingList.Keys.{is_key}

pub take_out-requires : goal.take_out-requires
take_out-requires c = within_there c.args.key c.args.keys.now.items c.place_by_halves-at.result c.requires.sorted c.place_by_halves-at.ensures c.requires.there

pub returns-clause-sorted : goal.returns-clause-sorted
returns-clause-sorted c = rw c.take_out.ensures.items (IsSorted-remove c.args.keys.now.items c.place_by_halves-at.result c.requires.sorted)

pub returns-clause-counts : goal.returns-clause-counts
returns-clause-counts c =
    let ks = c.args.keys.now.items in
    let at = within_there c.args.key ks c.place_by_halves-at.result c.requires.sorted c.place_by_halves-at.ensures c.requires.there in
    let here = key_there c.args.key ks c.place_by_halves-at.result c.requires.sorted c.place_by_halves-at.ensures c.requires.there in
    λ k. rw c.take_out.ensures.items
    (omega (arith, sum_by-remove (λ l. one (is_key k l)) ks c.place_by_halves-at.result c.args.key at, ap (λ l. one (is_key k l)) here))

pub returns-clause-len : goal.returns-clause-len
returns-clause-len c =
    let ks = c.args.keys.now.items in
    let at = within_there c.args.key ks c.place_by_halves-at.result c.requires.sorted c.place_by_halves-at.ensures c.requires.there in
    rw c.take_out.ensures.items (omega (arith, length-remove ks c.place_by_halves-at.result at))
