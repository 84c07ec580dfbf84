use Rattle.lwp_calls.proofs.Compare.{lt-true, lt-false}
use Rattle.lwp_calls.proofs.Levels.{InStep-levels}
use Rattle.lwp_calls.proofs.Made.{Answers-is}
use Rattle.lwp_calls.proofs.pod_calls.set_maxpri.Goals as goal
use Rattle.lwp_calls.proofs.pod_calls.set_maxpri.Goals.{then-prio-maxpri-via-then-prio-maxpri, then-prio-maxpri-via-else-prio-maxpri+then-prio-gt-MOST_PRIORITY}
use Rattle.lwp_types.specs.Case.{unless}
use Rattle.std.proofs.Common.{arith, refl}

pub returns-then-prio-maxpri : goal.returns-then-prio-maxpri
unfolding unless
returns-then-prio-maxpri c = elim c.then-prio-maxpri.branch [
  | then-prio-maxpri-via-then-prio-maxpri w
      ↦ Answers-is (rw (lt-true c.args.prio c.args.parts.now.sched.maxpri (omega (arith, c.maxpri.ensures, w.if-prio-maxpri.true))) refl) c.requires.step refl
  | then-prio-maxpri-via-else-prio-maxpri+then-prio-gt-MOST_PRIORITY w
      ↦ Answers-is
      (rw (
        lt-false c.args.prio c.args.parts.now.sched.maxpri (omega (arith, c.maxpri.ensures, w.if-prio-maxpri.false)),
        lt-true 255 c.args.prio (omega (arith, w.if-prio-gt-MOST_PRIORITY.true)),
      )
      refl)
      c.requires.step refl
]

pub returns : goal.returns
unfolding unless
returns c = rw c.set_maxpri.ensures
    (Answers-is (rw (
      lt-false c.args.prio c.args.parts.now.sched.maxpri (omega (arith, c.maxpri.ensures, c.if-prio-maxpri.false)),
      lt-false 255 c.args.prio (omega (arith, c.if-prio-gt-MOST_PRIORITY.false)),
    ) refl)
    (InStep-levels c.args.parts.now c.requires.step c.args.parts.now.sched.order c.args.prio c.args.parts.now.exit c.args.parts.now.ended) refl)
