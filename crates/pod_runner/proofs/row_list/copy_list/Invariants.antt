use Rattle.std.proofs.Common.{◌≡◌, take}
use Rattle.pod_runner.proofs.row_list.copy_list.Given as goal

abbrev pub invariant-loop-i : goal.invariant-loop-i
invariant-loop-i l = l.copy ≡ take l.i l.list
