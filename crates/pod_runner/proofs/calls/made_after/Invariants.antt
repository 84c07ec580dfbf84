use Rattle.std.proofs.Common.{◌≡◌, drop}
use Rattle.std.specs.List.{fold}
use Rattle.pod_runner.specs.Calls.{call_by_effect}
use Rattle.pod_runner.proofs.calls.made_after.Given as goal

abbrev pub invariant-loop-i : goal.invariant-loop-i
invariant-loop-i l = fold call_by_effect l.made (drop l.i l.effects) ≡ fold call_by_effect l.initial.made l.effects
