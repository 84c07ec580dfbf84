use Rattle.std.proofs.Common.{take, ◌≤◌}
use Rattle.std.specs.VecDeque.{deque_capacity}
use Rattle.lists.proofs.waiting_list.filing.file.Given as goal
use Rattle.lists.specs.WaitingList.Entries.{IsFiled, rank_of, arrival_key}

abbrev pub invariant-loop-at : goal.invariant-loop-at
invariant-loop-at l = record {
  ranked : IsFiled rank_of (take l.at l.entries.items) l.ranks.items;
  queued : IsFiled arrival_key (take l.at l.entries.items) l.arrived.items;
  rank_room : deque_capacity l.fn.ranks ≤ deque_capacity l.ranks;
  arrived_room : deque_capacity l.fn.arrived ≤ deque_capacity l.arrived;
}
