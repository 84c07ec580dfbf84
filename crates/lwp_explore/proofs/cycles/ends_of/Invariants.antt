use Rattle.lwp_explore.specs.Cycles.{AreMarked}
use Rattle.lwp_explore.proofs.cycles.ends_of.Given as goal

abbrev pub invariant-loop-place : goal.invariant-loop-place
invariant-loop-place l = AreMarked l.jumps l.place l.marks.items
