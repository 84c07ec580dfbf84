use Rattle.std.proofs.Common.{◌≡◌, drop}
use Rattle.script_lines.specs.Table.{has}
use Rattle.script_lines.proofs.table.has.Given as goal

abbrev pub invariant-loop-slot : goal.invariant-loop-slot
invariant-loop-slot l = has l.kind (drop l.slot-index l.slots) ≡ has l.kind l.slots
