use Rattle.std.proofs.Common.{arith, sym, ◌<◌, ◌≤◌}
use Rattle.pod_sched.proofs.TimerLaws.MinimaLemmas.{none_found}
use Rattle.pod_sched.proofs.timers.minima.Minima.first_within.Goals as goal
use Rattle.pod_sched.specs.Timers.Minima.{node}

pub returns-then-node-now : goal.returns-then-node-now
returns-then-node-now c =
    let some : 1 ≤ c.self.inside.width = omega arith in
    let late : c.args.now < node c.self.inside.nodes.items 1 = omega (arith, c.node.ensures, c.if-node-now.true) in
    rw (← c.self.view_is) (sym (none_found c.self.inside.nodes.items c.self.inside.width c.args.now c.self.invariant.mended
    c.self.invariant.halves c.self.inside.height (c.self.invariant.full some) late))
