use Rattle.death_cleanup.specs.View.{state_of}
use Rattle.lwp_calls.proofs.Compare.{a_priority, le-false, le-false-at, le-true, le-true-at, no_priority, zero_priority}
use Rattle.lwp_calls.proofs.thread_calls.create_refusal.Goals as goal
use Rattle.lwp_calls.proofs.thread_calls.create_refusal.Goals.{then-prio-eq0-via-else-prio-eq0+then-prio-maxpri, then-prio-eq0-via-then-prio-eq0}
use Rattle.lwp_calls.proofs.thread_calls.create_refusal.Goals.{then-thread_count-ge-MOST_THREADS-via-else-thread_count-ge-MOST_THREADS+then-births-limit}
use Rattle.lwp_calls.proofs.thread_calls.create_refusal.Goals.{then-thread_count-ge-MOST_THREADS-via-then-thread_count-ge-MOST_THREADS}
use Rattle.std.proofs.Common.{arith, length, refl}

pub returns-then-number-parts-clause-value : goal.returns-then-number-parts-clause-value
returns-then-number-parts-clause-value c = rw (le-true c.args.parts.now.procs c.args.number (omega (arith, c.if-number-parts.true))) refl

pub returns-then-prio-eq0-clause-value : goal.returns-then-prio-eq0-clause-value
returns-then-prio-eq0-clause-value c =
    let proper = le-false c.args.parts.now.procs c.args.number (omega (arith, c.if-number-parts.false)) in
    elim c.then-prio-eq0.branch [
      | then-prio-eq0-via-then-prio-eq0 w ↦ rw (proper, zero_priority c.args.prio c.args.parts.now.sched.maxpri w.if-prio-eq0.true) refl
      | then-prio-eq0-via-else-prio-eq0+then-prio-maxpri w
          ↦ rw (proper, no_priority c.args.prio c.args.parts.now.sched.maxpri (omega (arith, w.maxpri.ensures, w.if-prio-maxpri.true))) refl
    ]

pub returns-then-thread_count-ge-MOST_THREADS-clause-value : goal.returns-then-thread_count-ge-MOST_THREADS-clause-value
returns-then-thread_count-ge-MOST_THREADS-clause-value c =
    let proper = le-false c.args.parts.now.procs c.args.number (omega (arith, c.if-number-parts.false)) in
    let fine = a_priority c.args.prio c.args.parts.now.sched.maxpri (omega arith) (omega (arith, c.maxpri.ensures, c.if-prio-maxpri.false)) in
    let threads = length (state_of c.args.parts.now).threads in
    elim c.then-thread_count-ge-MOST_THREADS.branch [
      | then-thread_count-ge-MOST_THREADS-via-then-thread_count-ge-MOST_THREADS w
          ↦ rw (proper, fine, le-true-at 1024 c.thread_count.result threads w.if-thread_count-ge-MOST_THREADS.true c.thread_count.ensures.value) refl
      | then-thread_count-ge-MOST_THREADS-via-else-thread_count-ge-MOST_THREADS+then-births-limit w
          ↦ rw (
            proper,
            fine,
            le-false-at 1024 c.thread_count.result threads w.if-thread_count-ge-MOST_THREADS.false c.thread_count.ensures.value,
            le-true c.args.parts.now.ids.limit c.args.parts.now.ids.births (omega (arith, w.births.ensures.value, w.limit.ensures, w.if-births-limit.true)),
          )
          refl
    ]

pub returns-clause-value : goal.returns-clause-value
returns-clause-value c =
    let proper = le-false c.args.parts.now.procs c.args.number (omega (arith, c.if-number-parts.false)) in
    let fine = a_priority c.args.prio c.args.parts.now.sched.maxpri (omega arith) (omega (arith, c.maxpri.ensures, c.if-prio-maxpri.false)) in
    let few = le-false-at 1024 c.thread_count.result (length (state_of c.args.parts.now).threads) c.if-thread_count-ge-MOST_THREADS.false
    c.thread_count.ensures.value in
    let under = le-false c.args.parts.now.ids.limit c.args.parts.now.ids.births
    (omega (arith, c.births.ensures.value, c.limit.ensures, c.if-births-limit.false)) in
    rw (proper, fine, few, under) refl

pub returns-clause-least : goal.returns-clause-least
returns-clause-least c = omega arith

pub returns-clause-most : goal.returns-clause-most
returns-clause-most c = omega (arith, c.maxpri.ensures, c.if-prio-maxpri.false)

pub returns-clause-births : goal.returns-clause-births
returns-clause-births c = omega (arith, c.births.ensures.value, c.limit.ensures, c.if-births-limit.false)
