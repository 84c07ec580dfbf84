use Rattle.lwp_types.specs.Lawful.{Lawful}
use Rattle.lwp_types.specs.State.{State}
use Rattle.pod_laws.proofs.Opening.{Lawful-opening}
use Rattle.std.proofs.Common.{None, subst, sym}
use Rattle.lwp_calls.proofs.pod.Pod.new.Goals as goal

pub invariant_of-result : goal.invariant_of-result
invariant_of-result c = (
  subst (λ (s : State). Lawful s None) (sym c.in_ok-parts.ensures.state) (Lawful-opening c.args.params c.requires.least c.requires.most),
  c.in_ok-parts.ensures.step,
  c.in_ok-parts.ensures.alone,
  c.current-next.ensures.value,
)
