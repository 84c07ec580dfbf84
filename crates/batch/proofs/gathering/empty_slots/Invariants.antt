use Rattle.std.proofs.Common.{All, None, length, ◌≡◌}
use Rattle.batch.proofs.gathering.empty_slots.Given as goal

abbrev pub invariant-loop : goal.invariant-loop
invariant-loop l = record {
  count : length l.slots.items ≡ l.counter;
  empty : All (λ slot. slot ≡ None) l.slots.items;
}
