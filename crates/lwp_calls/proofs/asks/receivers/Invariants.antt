use Rattle.death_cleanup.specs.View.{rows_of, state_of}
use Rattle.lwp_calls.proofs.asks.receivers.Given as goal
use Rattle.lwp_types.specs.Messages.{awaits, receivers_of}
use Rattle.lwp_types.specs.State.{numbers}
use Rattle.std.proofs.Common.{drop, ◌++◌, ◌≡◌}
use Rattle.std.specs.List.{filter}

abbrev pub invariant-loop-i : goal.invariant-loop-i
invariant-loop-i l = l.list ++ numbers (filter (λ row. awaits l.from row.block) (rows_of l.parts.last_prio l.parts.sched.threads (drop l.i l.parts.ids.live)))
    ≡ receivers_of (state_of l.parts) l.from
