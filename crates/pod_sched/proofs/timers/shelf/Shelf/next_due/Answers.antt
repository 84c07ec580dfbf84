use Rattle.std.proofs.Common.{arith, ◌≤◌, ◌∙◌}
use Rattle.pod_sched.proofs.TimerLaws.LeavesLemmas.{least_tied}
use Rattle.pod_sched.proofs.timers.shelf.Shelf.next_due.Goals as goal
use Rattle.pod_sched.specs.Timers.Minima.{least}

pub returns : goal.returns
returns c =
    let most : least c.self.inside.dues ≤ 18446744073709551615 = omega (arith, c.least.ensures) in
    rw (← c.self.view_is) (c.least.ensures ∙ least_tied c.self.inside.leaves.items c.self.inside.dues c.self.invariant.fits c.self.invariant.filed.tied most)
