use Rattle.std.proofs.Common.{sym, ◌∙◌}
use Rattle.lists.proofs.WaitingLaws.KeyLaws.{IsSorted-remove, ahead_before, behind_after}
use Rattle.lists.proofs.waiting_list.keys.change_in_ring.Goals as goal

pub go_forward-requires-clause-sorted : goal.go_forward-requires-clause-sorted
go_forward-requires-clause-sorted c = IsSorted-remove c.args.keys.now.items c.args.at c.requires.sorted

pub go_forward-requires-clause-ahead : goal.go_forward-requires-clause-ahead
go_forward-requires-clause-ahead c =
    ahead_before c.args.keys.now.items c.args.at c.args.after c.args.key c.requires.sorted c.requires.at (sym c.is_before.ensures ∙ c.if-is_before.true)

pub go_back-requires-clause-sorted : goal.go_back-requires-clause-sorted
go_back-requires-clause-sorted c = IsSorted-remove c.args.keys.now.items c.args.at c.requires.sorted

pub go_back-requires-clause-behind : goal.go_back-requires-clause-behind
go_back-requires-clause-behind c =
    behind_after c.args.keys.now.items c.args.at c.args.after c.args.key c.requires.sorted c.requires.at (sym c.is_before.ensures ∙ c.if-is_before.false)
