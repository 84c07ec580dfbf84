use Rattle.monitors.proofs.KeptLemmas.{IsKept-created, IsKept-roomier, length-kept_locks}
use Rattle.monitors.proofs.monitors.Monitors.create.Goals as goal
use Rattle.std.proofs.Common.{arith, rules}

pub reserve-requires-clause-few : goal.reserve-requires-clause-few
reserve-requires-clause-few c = omega (arith, length-kept_locks c.self.invariant.kept, c.self.invariant.kept.locks_fit)

pub invariant_of-self : goal.invariant_of-self
invariant_of-self c =
    rw (c.reserve.ensures.locks)
    (record {
      kept = IsKept-roomier c.self.invariant.kept _ (omega (arith, c.self.invariant.kept.locks_fit, c.reserve.ensures.more));
      tied = c.reserve.ensures.tied;
    })

pub invariant_of-self-in_err-push : goal.invariant_of-self-in_err-push
invariant_of-self-in_err-push c =
    rw (c.in_err-push.ensures.items, c.reserve.ensures.locks)
    (record {
      kept = IsKept-roomier c.self.invariant.kept _ (omega (arith, c.self.invariant.kept.locks_fit, c.reserve.ensures.more));
      tied = c.reserve.ensures.tied;
    })

pub invariant_of-self-2 : goal.invariant_of-self-2
invariant_of-self-2 c =
    rw (c.in_ok-push.ensures.items, c.reserve.ensures.locks)
    (record {
      kept = IsKept-created c.self.invariant.kept _ _ (omega arith) (omega (arith, c.in_ok-reserve.ensures.ok));
      tied = c.reserve.ensures.tied;
    })

pub returns-clause-value : goal.returns-clause-value
returns-clause-value c = search rules

pub returns-clause-ok : goal.returns-clause-ok
returns-clause-ok c = search rules
