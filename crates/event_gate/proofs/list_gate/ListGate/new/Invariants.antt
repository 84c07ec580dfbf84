use Rattle.std.proofs.Common.{◌≡◌, take}
use Rattle.event_gate.specs.Shelves.{full_shelves, left_in_all}
use Rattle.event_gate.proofs.list_gate.ListGate.new.Given as goal

abbrev pub invariant-loop-line : goal.invariant-loop-line
invariant-loop-line l = (l.gate ≡ full_shelves l.events (take l.line-index l.posts)) × (left_in_all l.gate ≡ l.line-index)
