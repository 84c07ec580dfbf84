use Rattle.std.proofs.Common.{arith, ◌*◌, ◌+◌, ◌≡◌}
use Rattle.pod_sched.proofs.TimerLaws.MinimaLemmas.{one_higher}
use Rattle.pod_sched.proofs.timers.minima.full_size.Goals as goal
use Rattle.pod_sched.specs.Timers.Minima.{leaf_under}

pub loop-width-preserved : goal.loop-width-preserved
loop-width-preserved c =
    let was = c.loop-width.invariant in
    let full : c.loop-width.width * 2 ≡ leaf_under (c.loop-width.height + 1) 1 = omega (arith, one_higher c.loop-width.height, was.full) in
    record { full = full; low = omega (arith, was.low); most = omega (arith, c.loop-width-test.true, c.requires) }
