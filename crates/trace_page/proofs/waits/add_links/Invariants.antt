use Rattle.std.proofs.Common.{◌≡◌, ◌++◌, drop}
use Rattle.trace_page.specs.Waits.{links_of}
use Rattle.trace_page.proofs.waits.add_links.Given as goal

abbrev pub invariant-loop-lane : goal.invariant-loop-lane
invariant-loop-lane l = l.out.items ++ links_of l.lanes l.spans (drop l.lane-index l.lanes) ≡ l.initial.out.items ++ links_of l.lanes l.spans l.lanes
