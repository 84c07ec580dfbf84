use Rattle.std.proofs.Common.{◌≡◌, ◌++◌, length, true}
use Rattle.trace_page.specs.Waits.{hops_from}
use Rattle.trace_page.proofs.waits.add_hops.Given as goal

abbrev pub invariant-loop-left : goal.invariant-loop-left
invariant-loop-left l = l.out.items ++ hops_from l.links l.start l.left l.at l.begins
    ≡ l.initial.out.items ++ hops_from l.links l.start (length l.links) l.start true

abbrev pub decreases-loop-left : goal.decreases-loop-left
decreases-loop-left l = l.left
