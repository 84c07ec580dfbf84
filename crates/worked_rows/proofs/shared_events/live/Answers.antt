use Rattle.lwp_types.specs.Case.{unless}
use Rattle.lwp_types.specs.State.{and_then, for_each, in_order}
use Rattle.lwp_types.specs.Step.{step, step_by}
use Rattle.std.proofs.Common.{refl}
use Rattle.worked_rows.proofs.shared_events.live.Goals as goal

pub returns-clause-last_agent : goal.returns-clause-last_agent
unfolding step step_by unless and_then in_order for_each
returns-clause-last_agent c = refl

pub returns-clause-no_agent : goal.returns-clause-no_agent
unfolding step step_by unless and_then in_order for_each
returns-clause-no_agent c = (refl, refl)

pub returns-clause-no_agent_of_another_event : goal.returns-clause-no_agent_of_another_event
unfolding step step_by unless and_then in_order for_each
returns-clause-no_agent_of_another_event c = (refl, refl)

pub returns-clause-no_event_before_no_room : goal.returns-clause-no_event_before_no_room
unfolding step step_by unless and_then in_order for_each
returns-clause-no_event_before_no_room c = (refl, refl)
