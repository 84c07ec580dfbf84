use Rattle.std.proofs.Common.{All, IfOk, List, length, ℕ, ◌≡◌}
use Rattle.batch.specs.Slots.{Fit}
use Rattle.batch.specs.Working.{IsBelow, IsOf}
use Rattle.batch.proofs.gathering.fill_all.Given as goal

abbrev pub invariant-loop-done : goal.invariant-loop-done
invariant-loop-done l = record {
  len : length l.slots.items ≡ length l.initial.slots.items;
  below : All (λ done. IfOk done (λ all. All (IsBelow (length l.initial.slots.items)) all.items)) l.left.items;
  fit : (wanted : List (List ℕ)) → Fit wanted l.initial.slots.items → All (λ done. IfOk done (λ all. All (IsOf wanted) all.items)) l.initial.left.items
      → Fit wanted l.slots.items × All (λ done. IfOk done (λ all. All (IsOf wanted) all.items)) l.left.items;
}

abbrev pub decreases-loop-done : goal.decreases-loop-done
decreases-loop-done l = length l.left.items
