use Rattle.std.proofs.Common.{◌∙◌}
use Rattle.pod_sched.proofs.TimerLaws.LeavesLemmas.{first_come}
use Rattle.pod_sched.proofs.timers.shelf.Shelf.first_due.Goals as goal

pub returns : goal.returns
returns c =
    rw (← c.self.view_is)
    (c.first_within.ensures ∙ first_come c.args.now c.requires c.self.inside.leaves.items c.self.inside.dues c.self.invariant.fits c.self.invariant.filed.tied)
