use Rattle.death_cleanup.specs.View.{state_of}
use Rattle.lwp_calls.proofs.Ticking.{Ticking}
use Rattle.lwp_calls.proofs.time_calls.tick.Given as goal
use Rattle.lwp_types.specs.Time.{due_threads}
use Rattle.std.proofs.Common.{length}

abbrev pub invariant-loop-tid : goal.invariant-loop-tid
invariant-loop-tid l = Ticking l.fn.parts l.fn.effects l.parts l.effects

abbrev pub decreases-loop-tid : goal.decreases-loop-tid
decreases-loop-tid l = length (due_threads (state_of l.parts))
