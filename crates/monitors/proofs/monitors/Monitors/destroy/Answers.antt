use Rattle.monitors.proofs.KeptLemmas.{IsKept-destroyed}
use Rattle.monitors.proofs.monitors.Monitors.destroy.Goals as goal

pub invariant_of-self : goal.invariant_of-self
invariant_of-self c =
    rw c.take_out.ensures
    (record {
      kept = IsKept-destroyed c.self.invariant.kept c.args.mon (rw (← c.self.view_is) at c.requires.free);
      tied = c.self.invariant.tied;
    })
