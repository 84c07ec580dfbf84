use Rattle.lwp_calls.proofs.Compare.{lt-true, lt-false}
use Rattle.lwp_calls.proofs.Levels.{InStep-levels}
use Rattle.lwp_calls.proofs.Made.{ComesTo-is}
use Rattle.lwp_calls.proofs.pod_calls.pod_exit.Goals as goal
use Rattle.lwp_types.specs.Case.{unless}
use Rattle.std.proofs.Common.{arith, refl, true}

pub returns-then-code-gt-MOST_STATUS : goal.returns-then-code-gt-MOST_STATUS
unfolding unless
returns-then-code-gt-MOST_STATUS c = ComesTo-is (rw (lt-true 99 c.args.code (omega (arith, c.if-code-gt-MOST_STATUS.true))) refl) c.requires.step refl

pub returns : goal.returns
unfolding unless
returns c = ComesTo-is (rw (lt-false 99 c.args.code (omega (arith, c.if-code-gt-MOST_STATUS.false))) refl)
    (InStep-levels c.args.parts.now c.requires.step c.args.parts.now.sched.order c.args.parts.now.sched.maxpri c.args.code true) refl
