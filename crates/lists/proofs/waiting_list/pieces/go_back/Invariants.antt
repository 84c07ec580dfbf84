use Rattle.std.proofs.Common.{length, ◌<◌, ◌≡◌}
use Rattle.std.specs.List.{remove}
use Rattle.lists.proofs.waiting_list.pieces.go_back.Given as goal
use Rattle.lists.specs.WaitingList.Keys.{IsBehind}

abbrev pub invariant-loop : goal.invariant-loop
invariant-loop l = record {
  within : l.at < length l.keys;
  rest : remove l.keys l.at ≡ remove l.fn.keys l.from;
  behind : IsBehind l.key l.keys l.at;
  len : length l.keys ≡ length l.fn.keys;
}
