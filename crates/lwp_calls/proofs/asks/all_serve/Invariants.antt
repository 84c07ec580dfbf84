use Rattle.death_cleanup.specs.View.{rows_of, state_of}
use Rattle.lwp_calls.proofs.asks.all_serve.Given as goal
use Rattle.std.proofs.Common.{drop, ◌≡◌}
use Rattle.std.specs.List.{list_all}

abbrev pub invariant-loop-i : goal.invariant-loop-i
invariant-loop-i l = list_all (λ row. row.flags.server) (rows_of l.parts.last_prio l.parts.sched.threads (drop l.i l.parts.ids.live))
    ≡ list_all (λ row. row.flags.server) (state_of l.parts).threads
