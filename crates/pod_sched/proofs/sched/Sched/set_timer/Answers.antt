use Rattle.pod_sched.proofs.TimedLemmas.{IsTimed-set, blocked_counted, set_fits}
use Rattle.pod_sched.proofs.sched.Sched.set_timer.Goals as goal
use Rattle.std.proofs.Common.{arith}

pub set-requires-clause-room : goal.set-requires-clause-room
set-requires-clause-room c =
    let known = blocked_counted c.self.inside.turns.threads c.args.tid (rw (← c.self.view_is) at c.requires.waits) in
    let fits = set_fits c.self.invariant c.args.tid c.args.due known (rw (← c.self.view_is) at c.requires.new)
    c.len-known.ensures.ordered.known_once c.len-known.ensures.few in
    omega (arith, fits)

pub invariant_of-self : goal.invariant_of-self
invariant_of-self c =
    let known = blocked_counted c.self.inside.turns.threads c.args.tid (rw (← c.self.view_is) at c.requires.waits) in
    rw c.set.ensures (IsTimed-set c.self.invariant c.args.tid c.args.due known (rw (← c.self.view_is) at c.requires.new))
