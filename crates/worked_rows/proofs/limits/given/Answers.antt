use Rattle.lwp_types.specs.Case.{unless}
use Rattle.lwp_types.specs.State.{and_then, for_each, in_order}
use Rattle.lwp_types.specs.Step.{step, step_by}
use Rattle.std.proofs.Common.{refl}
use Rattle.worked_rows.proofs.limits.given.Goals as goal

pub returns-clause-last_registration : goal.returns-clause-last_registration
unfolding step step_by unless and_then in_order for_each
returns-clause-last_registration c = refl

pub returns-clause-no_registration : goal.returns-clause-no_registration
unfolding step step_by unless and_then in_order for_each
returns-clause-no_registration c = (refl, refl)

pub returns-clause-last_pattern : goal.returns-clause-last_pattern
unfolding step step_by unless and_then in_order for_each
returns-clause-last_pattern c = refl

pub returns-clause-no_pattern : goal.returns-clause-no_pattern
unfolding step step_by unless and_then in_order for_each
returns-clause-no_pattern c = (refl, refl)
