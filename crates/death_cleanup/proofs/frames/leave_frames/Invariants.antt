use Rattle.death_cleanup.proofs.Leaving.{Leaving}
use Rattle.death_cleanup.proofs.frames.leave_frames.Given as goal
use Rattle.death_cleanup.specs.View.{state_of}
use Rattle.lwp_types.specs.State.{marks_in}
use Rattle.std.proofs.Common.{length}

abbrev pub invariant-loop-mark : goal.invariant-loop-mark
invariant-loop-mark l = Leaving l.tid l.depth l.fn.parts l.fn.effects l.parts l.effects

abbrev pub decreases-loop-mark : goal.decreases-loop-mark
decreases-loop-mark l = length (marks_in (state_of l.parts) l.tid)
