use Rattle.std.proofs.Common.{take, ◌≡◌}
use Rattle.lists.specs.ThreadIndex.{width_of}
use Rattle.lists.proofs.waiting_list.filing.file_threads.Given as goal
use Rattle.lists.specs.WaitingList.Entries.{IsKnown}

abbrev pub invariant-loop-at : goal.invariant-loop-at
invariant-loop-at l = record {
  known : IsKnown (take l.at l.entries.items) l.index;
  width : width_of l.index ≡ width_of l.fn.index;
  room : l.index.room ≡ l.fn.index.room;
}
