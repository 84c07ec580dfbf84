use Rattle.std.proofs.Common.{◌≡◌, ◌++◌, drop}
use Rattle.trace_page.specs.Steps.{all_due}
use Rattle.trace_page.proofs.steps.add_all_due.Given as goal

abbrev pub invariant-loop-lane : goal.invariant-loop-lane
invariant-loop-lane l = l.out.items ++ all_due l.lanes l.spans l.at (drop l.lane-index l.lanes) ≡ l.initial.out.items ++ all_due l.lanes l.spans l.at l.lanes
