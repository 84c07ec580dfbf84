use Rattle.death_cleanup.specs.View.{state_of}
use Rattle.lwp_calls.proofs.Passing.{Lawful-passed}
use Rattle.lwp_calls.proofs.Ticking.{InStep-clock}
use Rattle.lwp_calls.proofs.pod.Pod.pass.Goals as goal
use Rattle.std.proofs.Common.{◌+◌}

pub invariant_of-self : goal.invariant_of-self
invariant_of-self c = rw c.pass.ensures (
  Lawful-passed c.args.ticks (state_of c.self.inside.parts) c.self.invariant.0 (rw (← c.self.view_is) at c.requires.quiet),
  InStep-clock c.self.inside.parts c.self.inside.parts.sched.timers (c.self.inside.parts.sched.now + c.args.ticks) c.self.invariant.1,
  c.self.invariant.2,
  c.self.invariant.3,
)
