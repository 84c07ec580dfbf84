use Rattle.monitors.proofs.KeptLemmas.{IsKept-freed, is_free-freed, is_live-held}
use Rattle.monitors.proofs.monitors.Monitors.break_lock.Goals as goal

pub invariant_of-self : goal.invariant_of-self
invariant_of-self c =
    rw c.free.ensures.locks
    (record { kept = rw c.free.ensures.room (IsKept-freed c.self.invariant.kept c.args.mon); tied = c.free.ensures.tied })

pub grant-requires-clause-live : goal.grant-requires-clause-live
grant-requires-clause-live c = is_live-held c.self.invariant.kept c.args.mon (rw (← c.self.view_is) at c.requires)

pub grant-requires-clause-free : goal.grant-requires-clause-free
grant-requires-clause-free c = rw c.free.ensures.locks (is_free-freed c.self.invariant.kept c.args.mon)
