use Rattle.std.proofs.Common.{arith, sym, ◌≤◌, ◌∙◌}
use Rattle.pod_sched.proofs.TimerLaws.MinimaLemmas.{least_of}
use Rattle.pod_sched.proofs.timers.minima.Minima.least.Goals as goal
use Rattle.pod_sched.specs.Timers.Minima.{node}

pub returns : goal.returns
returns c =
    let some : 1 ≤ c.self.inside.width = omega arith in
    let most : node c.self.inside.nodes.items 1 ≤ 18446744073709551615 = omega (arith, c.node.ensures) in
    rw (← c.self.view_is) (c.node.ensures
    ∙ sym (least_of c.self.inside.nodes.items c.self.inside.width c.self.invariant.mended c.self.invariant.halves c.self.inside.height
    (c.self.invariant.full some) most))
