use Rattle.lwp_types.specs.Case.{unless}
use Rattle.lwp_types.specs.State.{and_then, for_each, in_order}
use Rattle.lwp_types.specs.Step.{step, step_by}
use Rattle.std.proofs.Common.{refl}
use Rattle.worked_rows.proofs.limits.depth.Goals as goal

pub returns-clause-last_enter : goal.returns-clause-last_enter
unfolding step step_by unless and_then in_order for_each
returns-clause-last_enter c = refl

pub returns-clause-last_cond_enter : goal.returns-clause-last_cond_enter
unfolding step step_by unless and_then in_order for_each
returns-clause-last_cond_enter c = refl

pub returns-clause-no_enter : goal.returns-clause-no_enter
unfolding step step_by unless and_then in_order for_each
returns-clause-no_enter c = (refl, refl)

pub returns-clause-no_cond_enter : goal.returns-clause-no_cond_enter
unfolding step step_by unless and_then in_order for_each
returns-clause-no_cond_enter c = (refl, refl)

pub returns-clause-exit : goal.returns-clause-exit
unfolding step step_by unless and_then in_order for_each
returns-clause-exit c = refl
