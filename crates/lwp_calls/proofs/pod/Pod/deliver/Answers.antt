use Rattle.death_cleanup.specs.View.{state_of}
use Rattle.lwp_calls.proofs.pod.Pod.deliver.Goals as goal
use Rattle.pod_laws.proofs.Delivery.{deliveries_are_few}
use Rattle.pod_laws.proofs.EveryStep.{Lawful-deliver}
use Rattle.lwp_types.specs.Agents.{deliver}
use Rattle.std.proofs.Common.{ap, arith, length, ◌++◌, ◌∙◌}

pub invariant_of-self : goal.invariant_of-self
invariant_of-self c = (
  rw c.deliver.ensures.state (Lawful-deliver (state_of c.self.inside.parts) c.self.invariant.0 c.args.event (rw (← c.self.view_is) at c.requires) c.args.text),
  c.deliver.ensures.step,
  c.deliver.ensures.dying ∙ c.self.invariant.2,
  c.current-self-inside.ensures.value,
)

pub returns-clause-lawful : goal.returns-clause-lawful
returns-clause-lawful c =
    rw c.deliver.ensures.state (Lawful-deliver (state_of c.self.inside.parts) c.self.invariant.0 c.args.event (rw (← c.self.view_is) at c.requires) c.args.text)

pub returns-clause-few : goal.returns-clause-few
returns-clause-few c least =
    let told = ap length
    (c.deliver.ensures.effects ∙ ap (λ before. before ++ (deliver (state_of c.self.inside.parts) c.args.event c.args.text).effects) c.clear.ensures) in
    omega (arith, told, deliveries_are_few (state_of c.self.inside.parts) c.self.invariant.0 c.args.event c.args.text least)
