use Rattle.std.proofs.Common.{◌≡◌, ℕ, List, length}
use Rattle.std.specs.Prelude.{Bool}
use Rattle.script_advice.specs.Near.{is_edited_once}
use Rattle.script_advice.proofs.near.parted.Given as goal

abbrev pub invariant-loop-left : goal.invariant-loop-left
invariant-loop-left l = (alike : List ℕ → List ℕ → Bool) → is_edited_once alike l.v l.w ≡ is_edited_once alike l.left l.other

abbrev pub decreases-loop-left : goal.decreases-loop-left
decreases-loop-left l = length l.left
