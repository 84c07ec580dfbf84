use Rattle.std.proofs.Common.{◌≡◌, drop}
use Rattle.script_advice.specs.Faults.{from_slot}
use Rattle.script_advice.proofs.faults.from_slot.Given as goal

abbrev pub invariant-loop-other : goal.invariant-loop-other
invariant-loop-other l = from_slot l.kind (drop l.other-index l.kinds) l.left ≡ from_slot l.kind l.kinds l.rest
