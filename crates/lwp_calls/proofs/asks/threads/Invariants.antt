use Rattle.death_cleanup.specs.View.{rows_of, state_of}
use Rattle.lwp_calls.proofs.asks.threads.Given as goal
use Rattle.lwp_types.specs.State.{numbers}
use Rattle.std.proofs.Common.{drop, ◌++◌, ◌≡◌}

abbrev pub invariant-loop-i : goal.invariant-loop-i
invariant-loop-i l = l.list ++ numbers (rows_of l.parts.last_prio l.parts.sched.threads (drop l.i l.parts.ids.live)) ≡ numbers (state_of l.parts).threads
