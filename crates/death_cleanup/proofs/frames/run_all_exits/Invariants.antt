use Rattle.death_cleanup.proofs.Unwinding.{Unwinding}
use Rattle.death_cleanup.proofs.frames.run_all_exits.Given as goal
use Rattle.death_cleanup.specs.View.{state_of}
use Rattle.lwp_types.specs.Exceptions.{exits_of}
use Rattle.lwp_types.specs.State.{marks_in}
use Rattle.std.proofs.Common.{[], length}

abbrev pub invariant-loop-mark : goal.invariant-loop-mark
invariant-loop-mark l = Unwinding l.tid exits_of [] (λ ms. Unit {0}) l.fn.parts l.fn.effects l.parts l.effects

abbrev pub decreases-loop-mark : goal.decreases-loop-mark
decreases-loop-mark l = length (marks_in (state_of l.parts) l.tid)
