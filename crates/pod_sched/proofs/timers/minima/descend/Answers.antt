use Rattle.std.proofs.Common.{arith, suc, ◌*◌, ◌+◌, ◌-◌, ◌≡◌}
use Rattle.pod_sched.proofs.TimerLaws.MinimaLemmas.{found, goes_left, goes_right, inside, starts}
use Rattle.pod_sched.proofs.timers.minima.descend.Goals as goal
use Rattle.pod_sched.proofs.timers.minima.descend.Goals.{else-node-now, then-node-now}

pub loop-level-init : goal.loop-level-init
loop-level-init c =
    let all : c.args.height - 0 ≡ c.args.height = omega arith in
    rw all (starts c.args.nodes.now.items c.args.width c.args.now c.requires.mended c.requires.halves c.args.height c.requires.full c.requires.come)

pub overflow_mul-at : goal.overflow_mul-at
overflow_mul-at c =
    let one_more : c.args.height - c.loop-level._level ≡ suc (c.args.height - (c.loop-level._level + 1)) = omega arith in
    let below = inside c.args.nodes.now.items c.args.width c.args.now c.requires.mended _ c.loop-level.at (rw one_more at c.loop-level.invariant) in
    omega (arith, below, c.requires.halves, c.type_inv.nodes)

pub node-requires : goal.node-requires
node-requires c =
    let one_more : c.args.height - c.loop-level._level ≡ suc (c.args.height - (c.loop-level._level + 1)) = omega arith in
    let below = inside c.args.nodes.now.items c.args.width c.args.now c.requires.mended _ c.loop-level.at (rw one_more at c.loop-level.invariant) in
    omega (arith, below, c.requires.halves)

pub loop-level-preserved : goal.loop-level-preserved
loop-level-preserved c =
    let one_more : c.args.height - c.loop-level._level ≡ suc (c.args.height - (c.loop-level._level + 1)) = omega arith in
    let was = rw one_more at c.loop-level.invariant in
    let twice : c.loop-level.at * 2 ≡ 2 * c.loop-level.at = omega arith in
    elim c.if-node-now.branch [
      | then-node-now w
          ↦ rw (w.at-is, twice) (goes_right c.args.nodes.now.items c.args.width c.args.now c.requires.mended _ c.loop-level.at was
          (rw (c.node.ensures, twice) at w.if-node-now.true))
      | else-node-now w
          ↦ rw (w.at-is, twice) (goes_left c.args.nodes.now.items c.args.width c.args.now c.requires.mended _ c.loop-level.at was
          (rw (c.node.ensures, twice) at w.if-node-now.false))
    ]

pub returns-clause-value : goal.returns-clause-value
returns-clause-value c =
    let none : c.args.height - c.loop-level._level ≡ 0 = omega arith in
    found c.args.nodes.now.items c.args.width c.args.now c.requires.mended c.requires.halves c.loop-level.at (rw none at c.loop-level.invariant)
