use Rattle.lists.proofs.WaitingLaws.KeyLaws.{IsSorted-insert}
use Rattle.lists.proofs.waiting_list.keys.add_within.Goals as goal

pub returns-clause-sorted : goal.returns-clause-sorted
returns-clause-sorted c =
    rw c.put.ensures.items (IsSorted-insert c.args.keys.now.items c.place_by_halves-at.result c.args.key c.requires.sorted c.place_by_halves-at.ensures)
