use Rattle.monitors.proofs.KeptLemmas.{IsKept-freed}
use Rattle.monitors.proofs.monitors.Monitors.give_up.Goals as goal

pub invariant_of-self : goal.invariant_of-self
invariant_of-self c =
    rw c.free.ensures.locks
    (record { kept = rw c.free.ensures.room (IsKept-freed c.self.invariant.kept c.args.mon); tied = c.free.ensures.tied })
