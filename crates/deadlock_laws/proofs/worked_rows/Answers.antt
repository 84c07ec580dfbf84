use Rattle.deadlock_laws.proofs.worked_rows.Goals as goal
use Rattle.lwp_types.specs.Case.{unless}
use Rattle.lwp_types.specs.State.{and_then, for_each, in_order}
use Rattle.lwp_types.specs.Step.{step, step_by}
use Rattle.std.proofs.Common.{refl}

pub returns-clause-destroyed : goal.returns-clause-destroyed
unfolding step step_by unless and_then in_order for_each
returns-clause-destroyed c = (refl, refl)

pub returns-clause-broken : goal.returns-clause-broken
unfolding step step_by unless and_then in_order for_each
returns-clause-broken c = (refl, refl)

pub returns-clause-returned : goal.returns-clause-returned
unfolding step step_by unless and_then in_order for_each
returns-clause-returned c = (refl, refl)

pub returns-clause-raised : goal.returns-clause-raised
unfolding step step_by unless and_then in_order for_each
returns-clause-raised c = (refl, refl)

pub returns-clause-notified_of : goal.returns-clause-notified_of
unfolding step step_by unless and_then in_order for_each
returns-clause-notified_of c = (refl, refl)

pub returns-clause-sent : goal.returns-clause-sent
unfolding step step_by unless and_then in_order for_each
returns-clause-sent c = (refl, refl)

pub returns-clause-replied : goal.returns-clause-replied
unfolding step step_by unless and_then in_order for_each
returns-clause-replied c = (refl, refl)

pub returns-clause-left : goal.returns-clause-left
unfolding step step_by unless and_then in_order for_each
returns-clause-left c = (refl, refl)

pub returns-clause-waited : goal.returns-clause-waited
unfolding step step_by unless and_then in_order for_each
returns-clause-waited c = (refl, refl)

pub returns-clause-notified : goal.returns-clause-notified
unfolding step step_by unless and_then in_order for_each
returns-clause-notified c = (refl, refl)

pub returns-clause-told_all : goal.returns-clause-told_all
unfolding step step_by unless and_then in_order for_each
returns-clause-told_all c = (refl, refl)

pub returns-clause-told_one : goal.returns-clause-told_one
unfolding step step_by unless and_then in_order for_each
returns-clause-told_one c = (refl, refl)
