use Rattle.std.proofs.Common.{◌≡◌, drop}
use Rattle.script_advice.specs.Faults.{slots_fault}
use Rattle.script_advice.proofs.faults.slots_fault.Given as goal

abbrev pub invariant-loop-kind : goal.invariant-loop-kind
invariant-loop-kind l = slots_fault (drop l.kind-index l.kinds) l.left ≡ slots_fault l.kinds l.rest
