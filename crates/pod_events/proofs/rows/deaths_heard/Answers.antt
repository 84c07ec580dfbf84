use Rattle.lwp_types.specs.Agents.{deliver}
use Rattle.lwp_types.specs.Case.{unless}
use Rattle.lwp_types.specs.State.{and_then, for_each, in_order}
use Rattle.lwp_types.specs.Step.{step, step_by}
use Rattle.pod_events.proofs.rows.deaths_heard.Goals as goal
use Rattle.pod_events.specs.Events.{take_event}
use Rattle.pod_events.specs.Step.{event_step, event_step_by}
use Rattle.pod_events.specs.Rows.{trapped_effects, twice_effects}
use Rattle.std.proofs.Common.{ap, arith, ◌∷◌}
use Rattle.std.proofs.lemmas.Fmt.{decimal_digit}

pub returns-clause-twice : goal.returns-clause-twice
unfolding event_step event_step_by take_event step step_by deliver unless and_then for_each in_order
returns-clause-twice c = ap (λ ds. twice_effects (116 ∷ ds)) (decimal_digit 3 (omega arith))

pub returns-clause-trapped : goal.returns-clause-trapped
unfolding event_step event_step_by take_event step step_by deliver unless and_then for_each in_order
returns-clause-trapped c = ap (λ ds. trapped_effects (116 ∷ ds)) (decimal_digit 2 (omega arith))
