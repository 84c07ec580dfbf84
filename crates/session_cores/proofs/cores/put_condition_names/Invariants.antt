use Rattle.std.proofs.Common.{length, take, ◌++◌, ◌∷◌, ◌≡◌}
use Rattle.session_cores.proofs.cores.put_condition_names.Given as goal

abbrev pub invariant-loop-i : goal.invariant-loop-i
invariant-loop-i l = l.key ≡ l.fn.key ++ length l.env.conditions ∷ take l.i l.env.conditions
