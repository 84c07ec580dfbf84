use Rattle.monitors.proofs.KeptLemmas.{IsKept-deepened}
use Rattle.monitors.proofs.monitors.Monitors.exit.Goals as goal
use Rattle.std.proofs.Common.{◌-◌}

pub invariant_of-self : goal.invariant_of-self
invariant_of-self c =
    rw c.set_depth.ensures.locks
    (record {
      kept = rw c.set_depth.ensures.room (IsKept-deepened c.self.invariant.kept c.args.mon (c.depth_of-depth.result - 1));
      tied = c.set_depth.ensures.tied;
    })
