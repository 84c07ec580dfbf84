use Rattle.std.proofs.Common.{drop, take, ◌++◌, ◌≡◌}
use Rattle.std.specs.VecDeque.{deque_capacity}
use Rattle.lists.proofs.waiting_list.filing.renumber.Given as goal
use Rattle.lists.specs.WaitingList.Entries.{with_arrivals}

abbrev pub invariant-loop-at : goal.invariant-loop-at
invariant-loop-at l = record {
  items : l.entries.items ≡ with_arrivals 0 (take l.at l.fn.entries.items) ++ drop l.at l.fn.entries.items;
  capacity : deque_capacity l.entries ≡ deque_capacity l.fn.entries;
}
