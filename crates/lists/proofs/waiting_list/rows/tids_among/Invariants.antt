use Rattle.std.proofs.Common.{map, take, ◌≡◌}
use Rattle.std.specs.List.{filter}
use Rattle.lists.proofs.waiting_list.rows.tids_among.Given as goal
use Rattle.lists.specs.WaitingList.Entries.{is_entry_for}

abbrev pub invariant-loop-i : goal.invariant-loop-i
invariant-loop-i l = l.ids ≡ map (λ e. e.tid) (filter (is_entry_for l.what) (take l.i l.entries.items))
