use Rattle.death_cleanup.specs.View.{state_of}
use Rattle.lwp_calls.proofs.Pods.{first-armed, first-zero, nowhere-armed, nowhere-zero}
use Rattle.lwp_calls.proofs.pod.Pod.next_armed.Goals as goal
use Rattle.std.proofs.Common.{arith, sym, ◌≡◌}

pub returns-then-from-gt-CLOCK-clause-none : goal.returns-then-from-gt-CLOCK-clause-none
returns-then-from-gt-CLOCK-clause-none c = rw (← c.self.view_is)
    (nowhere-armed (state_of c.self.inside.parts) c.if-self.false c.args.from c.if-from-gt-CLOCK.true c.next_armed.result c.next_armed.ensures.none)

pub returns-then-from-gt-CLOCK-clause-first : goal.returns-then-from-gt-CLOCK-clause-first
returns-then-from-gt-CLOCK-clause-first c = rw (← c.self.view_is)
    (first-armed (state_of c.self.inside.parts) c.if-self.false c.args.from c.if-from-gt-CLOCK.true c.next_armed.result c.next_armed.ensures.first)

pub returns-clause-none : goal.returns-clause-none
returns-clause-none c =
    let from : c.args.from ≡ 0 = omega (arith, c.if-from-gt-CLOCK.false) in
    rw (← c.self.view_is, from) (nowhere-zero (state_of c.self.inside.parts) c.if-self.false (sym c.if-may_tick.ensures) c.next_armed-2.result
    (nowhere-armed (state_of c.self.inside.parts) c.if-self.false 1 (omega arith) c.next_armed-2.result c.next_armed-2.ensures.none))

pub returns-clause-first : goal.returns-clause-first
returns-clause-first c =
    let from : c.args.from ≡ 0 = omega (arith, c.if-from-gt-CLOCK.false) in
    rw (← c.self.view_is, from) (first-zero (state_of c.self.inside.parts) c.if-self.false (sym c.if-may_tick.ensures) c.next_armed-2.result
    (first-armed (state_of c.self.inside.parts) c.if-self.false 1 (omega arith) c.next_armed-2.result c.next_armed-2.ensures.first))
