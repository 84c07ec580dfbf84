use Rattle.std.proofs.Common.{length, ◌<◌, ◌≡◌}
use Rattle.std.specs.List.{remove}
use Rattle.std.specs.VecDeque.{deque_capacity}
use Rattle.lists.proofs.waiting_list.keys.go_forward.Given as goal
use Rattle.lists.specs.WaitingList.Keys.{IsAhead}

abbrev pub invariant-loop : goal.invariant-loop
invariant-loop l = record {
  within : l.at < length l.keys.items;
  rest : remove l.keys.items l.at ≡ remove l.fn.keys.items l.from;
  ahead : IsAhead l.key l.keys.items l.at;
  len : length l.keys.items ≡ length l.fn.keys.items;
  capacity : deque_capacity l.keys ≡ deque_capacity l.fn.keys;
}
