use Rattle.std.proofs.Common.{drop, ◌++◌, ◌≡◌}
use Rattle.lists.proofs.WaitingLaws.RunLaws.{listed}
use Rattle.lists.proofs.waiting_list.rows.tids_filed.Given as goal

abbrev pub invariant-loop-at : goal.invariant-loop-at
invariant-loop-at l = listed l.entries.items l.what l.arrived.items ≡ l.ids ++ listed l.entries.items l.what (drop l.at l.arrived.items)
