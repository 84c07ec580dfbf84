use Rattle.lwp_calls.proofs.Agree.{first-same}
use Rattle.lwp_calls.proofs.Compare.{a_priority, lt-false, lt-true, no_priority, zero_priority}
use Rattle.lwp_calls.proofs.Levels.{InStep-levels}
use Rattle.lwp_calls.proofs.Made.{Answers-is}
use Rattle.lwp_calls.proofs.turn_calls.resched.Goals as goal
use Rattle.lwp_calls.proofs.turn_calls.resched.Goals.{then-prio-eq0-via-then-prio-eq0, then-prio-eq0-via-else-prio-eq0+then-prio-maxpri}
use Rattle.lwp_types.specs.Case.{unless}
use Rattle.pod_sched.specs.Schedule.{after_resched}
use Rattle.std.proofs.Common.{arith, refl, sym}

pub returns-then-prio-eq0 : goal.returns-then-prio-eq0
unfolding unless
returns-then-prio-eq0 c = elim c.then-prio-eq0.branch [
  | then-prio-eq0-via-then-prio-eq0 w ↦ Answers-is (rw (zero_priority c.args.prio c.args.parts.now.sched.maxpri w.if-prio-eq0.true) refl) c.requires.step refl
  | then-prio-eq0-via-else-prio-eq0+then-prio-maxpri w
      ↦ Answers-is
      (rw (no_priority c.args.prio c.args.parts.now.sched.maxpri (omega (arith, w.maxpri.ensures, w.if-prio-maxpri.true))) refl) c.requires.step refl
]

pub returns-then-prio-prio_of : goal.returns-then-prio-prio_of
unfolding unless
returns-then-prio-prio_of c = Answers-is
    (rw (
      a_priority c.args.prio c.args.parts.now.sched.maxpri (omega arith) (omega (arith, c.maxpri.ensures, c.if-prio-maxpri.false)),
      sym c.prio_of.ensures,
      lt-true c.prio_of.result c.args.prio (omega (arith, c.if-prio-prio_of.true)),
    )
    refl)
    c.requires.step refl

pub returns : goal.returns
unfolding unless
returns c = rw c.resched.ensures
    (Answers-is (rw (
      a_priority c.args.prio c.args.parts.now.sched.maxpri (omega arith) (omega (arith, c.maxpri.ensures, c.if-prio-maxpri.false)),
      sym c.prio_of.ensures,
      lt-false c.prio_of.result c.args.prio (omega (arith, c.if-prio-prio_of.false)),
      first-same c.args.parts.now c.requires.step.tied c.requires.alone c.args.prio c.args.parts.now.sched.order,
    ) refl)
    (InStep-levels c.args.parts.now c.requires.step (after_resched c.args.parts.now.sched c.args.prio).order c.args.parts.now.sched.maxpri
    c.args.parts.now.exit c.args.parts.now.ended)
    refl)
