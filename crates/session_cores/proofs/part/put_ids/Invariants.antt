use Rattle.std.proofs.Common.{length, take, ◌++◌, ◌∷◌, ◌≡◌}
use Rattle.session_cores.proofs.part.put_ids.Given as goal

abbrev pub invariant-loop-i : goal.invariant-loop-i
invariant-loop-i l = l.key ≡ l.fn.key ++ length l.ids ∷ take l.i l.ids
