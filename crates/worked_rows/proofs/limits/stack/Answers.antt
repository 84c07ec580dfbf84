use Rattle.lwp_types.specs.Case.{unless}
use Rattle.lwp_types.specs.State.{and_then, for_each, in_order}
use Rattle.lwp_types.specs.Step.{step, step_by}
use Rattle.std.proofs.Common.{refl}
use Rattle.worked_rows.proofs.limits.stack.Goals as goal

pub returns-clause-last_frame : goal.returns-clause-last_frame
unfolding step step_by unless and_then in_order for_each
returns-clause-last_frame c = refl

pub returns-clause-no_frame : goal.returns-clause-no_frame
unfolding step step_by unless and_then in_order for_each
returns-clause-no_frame c = (refl, refl)

pub returns-clause-last_mark_by_call : goal.returns-clause-last_mark_by_call
unfolding step step_by unless and_then in_order for_each
returns-clause-last_mark_by_call c = refl

pub returns-clause-last_mark_by_handle : goal.returns-clause-last_mark_by_handle
unfolding step step_by unless and_then in_order for_each
returns-clause-last_mark_by_handle c = refl

pub returns-clause-last_mark_by_onexit : goal.returns-clause-last_mark_by_onexit
unfolding step step_by unless and_then in_order for_each
returns-clause-last_mark_by_onexit c = refl

pub returns-clause-no_mark_by_call : goal.returns-clause-no_mark_by_call
unfolding step step_by unless and_then in_order for_each
returns-clause-no_mark_by_call c = (refl, refl)

pub returns-clause-no_mark_by_handle : goal.returns-clause-no_mark_by_handle
unfolding step step_by unless and_then in_order for_each
returns-clause-no_mark_by_handle c = (refl, refl)

pub returns-clause-no_pattern_before_no_room : goal.returns-clause-no_pattern_before_no_room
unfolding step step_by unless and_then in_order for_each
returns-clause-no_pattern_before_no_room c = (refl, refl)

pub returns-clause-no_mark_by_onexit : goal.returns-clause-no_mark_by_onexit
unfolding step step_by unless and_then in_order for_each
returns-clause-no_mark_by_onexit c = (refl, refl)
