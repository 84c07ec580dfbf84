use Rattle.monitors.proofs.KeptLemmas.{held-last}
use Rattle.monitors.proofs.monitors.Monitors.release_last.Goals as goal
use Rattle.std.proofs.Common.{sym}

pub break_lock-requires : goal.break_lock-requires
break_lock-requires c = held-last c.args.self.now c.in_ok-mon.mon c.args.tid (sym c.in_ok-mon.ensures.value)
