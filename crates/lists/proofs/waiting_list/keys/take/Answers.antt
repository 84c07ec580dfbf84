use Rattle.lwp_types.specs.CountLaws.{one}
use Rattle.std.proofs.Common.{ap, arith}
use Rattle.std.proofs.lemmas.List.Edits.{length-remove}
use Rattle.std.proofs.lemmas.List.Sums.{sum_by-remove}
use Rattle.lists.proofs.WaitingLaws.KeyLaws.{IsSorted-remove, key_there, within_there}
use Rattle.lists.proofs.waiting_list.keys.take.Goals as goal
use Rattle.lists.specs.WaitingList.Keys.{is_key}

pub take_out-requires : goal.take_out-requires
take_out-requires c = within_there c.args.key c.args.keys.now.items 0 c.requires.sorted (c.stands_first.ensures c.if-stands_first.true) c.requires.there

pub returns-then-stands_first-clause-sorted : goal.returns-then-stands_first-clause-sorted
returns-then-stands_first-clause-sorted c = rw c.take_out.ensures.items (IsSorted-remove c.args.keys.now.items 0 c.requires.sorted)

pub returns-then-stands_first-clause-counts : goal.returns-then-stands_first-clause-counts
returns-then-stands_first-clause-counts c =
    let ks = c.args.keys.now.items in
    let at = within_there c.args.key ks 0 c.requires.sorted (c.stands_first.ensures c.if-stands_first.true) c.requires.there in
    let here = key_there c.args.key ks 0 c.requires.sorted (c.stands_first.ensures c.if-stands_first.true) c.requires.there in
    λ k. rw c.take_out.ensures.items (omega (arith, sum_by-remove (λ l. one (is_key k l)) ks 0 c.args.key at, ap (λ l. one (is_key k l)) here))

pub returns-then-stands_first-clause-len : goal.returns-then-stands_first-clause-len
returns-then-stands_first-clause-len c =
    let ks = c.args.keys.now.items in
    let at = within_there c.args.key ks 0 c.requires.sorted (c.stands_first.ensures c.if-stands_first.true) c.requires.there in
    rw c.take_out.ensures.items (omega (arith, length-remove ks 0 at))
