use Rattle.conditions.specs.ConditionTable.{waits_on}
use Rattle.death_cleanup.proofs.Notices.{Broadcasting}
use Rattle.death_cleanup.proofs.condition_wakes.broadcast.Given as goal
use Rattle.std.proofs.Common.{length}

abbrev pub invariant-loop-wait : goal.invariant-loop-wait
invariant-loop-wait l = Broadcasting l.cond l.mon l.fn.parts l.parts

abbrev pub decreases-loop-wait : goal.decreases-loop-wait
decreases-loop-wait l = length (waits_on l.parts.conds l.cond)
