use Rattle.std.proofs.Common.{arith, length, ◌≡◌}
use Rattle.lists.proofs.WaitingLaws.KeyLaws.{IsSorted-insert}
use Rattle.lists.proofs.waiting_list.keys.add.Goals as goal

pub returns-then-goes_last-clause-sorted : goal.returns-then-goes_last-clause-sorted
returns-then-goes_last-clause-sorted c =
    let ks = c.args.keys.now.items in
    let end : c.len-end.result ≡ length ks = omega (arith, c.len-end.ensures, c.args.keys.now.ok.0) in
    rw (c.put.ensures.items, end) (IsSorted-insert ks (length ks) c.args.key c.requires.sorted (c.goes_last.ensures c.if-goes_last.true))
