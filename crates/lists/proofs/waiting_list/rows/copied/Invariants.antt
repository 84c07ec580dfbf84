use Rattle.std.proofs.Common.{map, take, ◌≡◌}
use Rattle.lists.proofs.waiting_list.rows.copied.Given as goal
use Rattle.lists.specs.WaitingList.Entries.{waiting_of}

abbrev pub invariant-loop-i : goal.invariant-loop-i
invariant-loop-i l = l.rows ≡ map waiting_of (take l.i l.entries.items)
