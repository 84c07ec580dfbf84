use Rattle.std.proofs.Common.{All, List, length, ℕ, ◌≡◌}
use Rattle.batch.specs.Slots.{Fit}
use Rattle.batch.specs.Working.{IsBelow, IsOf}
use Rattle.batch.proofs.gathering.fill.Given as goal

abbrev pub invariant-loop-done : goal.invariant-loop-done
invariant-loop-done l = record {
  len : length l.slots.items ≡ length l.initial.slots.items;
  below : All (IsBelow (length l.initial.slots.items)) l.left.items;
  fit : (wanted : List (List ℕ)) → Fit wanted l.initial.slots.items → All (IsOf wanted) l.initial.left.items
      → Fit wanted l.slots.items × All (IsOf wanted) l.left.items;
}

abbrev pub decreases-loop-done : goal.decreases-loop-done
decreases-loop-done l = goal.left-loop-done l
