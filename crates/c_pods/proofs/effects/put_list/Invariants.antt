use Rattle.std.proofs.Common.{◌≡◌, ◌++◌}
use Rattle.std.specs.Prelude.{drop, take}
use Rattle.c_pods.proofs.effects.put_list.Given as goal

-- the first numbers are in their places
abbrev pub invariant-loop-i : goal.invariant-loop-i
invariant-loop-i l = l.out ≡ take l.i l.list ++ drop l.i l.initial.out
