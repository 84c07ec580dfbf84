use Rattle.std.proofs.Common.{◌≡◌, length}
use Rattle.trace_page.specs.Waits.{comes_back}
use Rattle.trace_page.proofs.waits.comes_back.Given as goal

abbrev pub invariant-loop-left : goal.invariant-loop-left
invariant-loop-left l = comes_back l.links l.start l.left l.at ≡ comes_back l.links l.start (length l.links) l.start

abbrev pub decreases-loop-left : goal.decreases-loop-left
decreases-loop-left l = l.left
