use Rattle.lwp_types.specs.Case.{unless}
use Rattle.lwp_types.specs.State.{and_then, for_each, in_order}
use Rattle.lwp_types.specs.Step.{step, step_by}
use Rattle.std.proofs.Common.{refl}
use Rattle.worked_rows.proofs.limits.births.Goals as goal

pub returns-clause-last_thread : goal.returns-clause-last_thread
unfolding step step_by unless and_then in_order for_each
returns-clause-last_thread c = refl

pub returns-clause-no_thread : goal.returns-clause-no_thread
unfolding step step_by unless and_then in_order for_each
returns-clause-no_thread c = (refl, refl)

pub returns-clause-last_agent : goal.returns-clause-last_agent
unfolding step step_by unless and_then in_order for_each
returns-clause-last_agent c = refl

pub returns-clause-no_agent : goal.returns-clause-no_agent
unfolding step step_by unless and_then in_order for_each
returns-clause-no_agent c = (refl, refl)

pub returns-clause-last_monitor : goal.returns-clause-last_monitor
unfolding step step_by unless and_then in_order for_each
returns-clause-last_monitor c = refl

pub returns-clause-no_monitor : goal.returns-clause-no_monitor
unfolding step step_by unless and_then in_order for_each
returns-clause-no_monitor c = (refl, refl)

pub returns-clause-last_condition : goal.returns-clause-last_condition
unfolding step step_by unless and_then in_order for_each
returns-clause-last_condition c = refl

pub returns-clause-no_condition : goal.returns-clause-no_condition
unfolding step step_by unless and_then in_order for_each
returns-clause-no_condition c = (refl, refl)
