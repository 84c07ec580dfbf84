use Rattle.std.proofs.Common.{◌+◌, ◌-◌}
use Rattle.lwp_explore.specs.Cycles.{LeadsOver}
use Rattle.lwp_explore.proofs.cycles.far_jumps.Given as goal

abbrev pub invariant-loop-far : goal.invariant-loop-far
invariant-loop-far l = LeadsOver l.nexts l.far l.jumps.items

abbrev pub decreases-loop-far : goal.decreases-loop-far
decreases-loop-far l = l.half + 1 - l.far
