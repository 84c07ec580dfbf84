use Rattle.death_cleanup.specs.View.{state_of}
use Rattle.lwp_calls.proofs.Agree.{known-same, priority-same}
use Rattle.lwp_calls.proofs.Compare.{a_priority, no_priority, zero_priority}
use Rattle.lwp_calls.proofs.Made.{Answers-is}
use Rattle.lwp_calls.proofs.Ranks.{InStep-prioritized, prioritized-is}
use Rattle.lwp_calls.proofs.turn_calls.set_priority.Goals as goal
use Rattle.lwp_calls.proofs.turn_calls.set_priority.Goals.{then-prio-eq0-via-then-prio-eq0, then-prio-eq0-via-else-prio-eq0+then-prio-maxpri}
use Rattle.lwp_types.specs.Case.{unless}
use Rattle.lwp_types.specs.State.{priority_in}
use Rattle.std.proofs.Common.{arith, of_z, pos, refl, rules, sym, to_z, w64, ◌∙◌, ◌≡◌}

pub returns-then-not-is_thread : goal.returns-then-not-is_thread
unfolding unless
returns-then-not-is_thread c = Answers-is (rw (sym c.if-not-is_thread.ensures) refl) c.requires.step refl

pub returns-then-prio-eq0 : goal.returns-then-prio-eq0
unfolding unless
returns-then-prio-eq0 c = elim c.then-prio-eq0.branch [
  | then-prio-eq0-via-then-prio-eq0 w
      ↦ Answers-is (rw (sym c.if-not-is_thread.ensures, zero_priority c.args.prio c.args.parts.now.sched.maxpri w.if-prio-eq0.true) refl) c.requires.step refl
  | then-prio-eq0-via-else-prio-eq0+then-prio-maxpri w
      ↦ Answers-is
      (rw (sym c.if-not-is_thread.ensures, no_priority c.args.prio c.args.parts.now.sched.maxpri (omega (arith, w.maxpri.ensures, w.if-prio-maxpri.true))) refl)
      c.requires.step refl
]

pub returns : goal.returns
unfolding unless
returns c =
    let known = known-same c.args.parts.now c.requires.step.tied c.requires.alone c.args.tid ∙ sym c.if-not-is_thread.ensures in
    let same : to_z w64 (of_z w64 c.from.result)
    ≡ pos (priority_in (state_of c.args.parts.now) c.args.tid) =
    rw (priority-same c.args.parts.now c.requires.step.tied c.requires.alone c.args.tid) (search rules) in
    rw (c.set_prio-before.ensures.after, c.requeue.ensures, c.requeue-2.ensures, same) (Answers-is (rw (
      sym c.if-not-is_thread.ensures,
      a_priority c.args.prio c.args.parts.now.sched.maxpri (omega arith) (omega (arith, c.maxpri.ensures, c.if-prio-maxpri.false)),
      prioritized-is c.args.tid c.args.prio c.args.parts.now c.requires.step c.requires.alone known,
    ) refl)
    (InStep-prioritized c.args.tid c.args.prio c.args.parts.now c.requires.step c.requires.alone known) refl)
