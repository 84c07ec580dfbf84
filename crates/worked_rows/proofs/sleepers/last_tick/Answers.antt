use Rattle.lwp_types.specs.Agents.{deliver}
use Rattle.lwp_types.specs.Case.{unless}
use Rattle.lwp_types.specs.State.{and_then, for_each, in_order}
use Rattle.lwp_types.specs.Step.{step, step_by}
use Rattle.std.proofs.Common.{refl}
use Rattle.worked_rows.proofs.sleepers.last_tick.Goals as goal

pub returns-clause-goes_on : goal.returns-clause-goes_on
unfolding deliver step step_by unless and_then in_order for_each
returns-clause-goes_on c = refl

pub returns-clause-is_told : goal.returns-clause-is_told
unfolding deliver step step_by unless and_then in_order for_each
returns-clause-is_told c = refl

pub returns-clause-changes_nothing_else : goal.returns-clause-changes_nothing_else
unfolding deliver step step_by unless and_then in_order for_each
returns-clause-changes_nothing_else c = refl

pub returns-clause-wakes : goal.returns-clause-wakes
unfolding deliver step step_by unless and_then in_order for_each
returns-clause-wakes c = refl

pub returns-clause-wakes_to_run : goal.returns-clause-wakes_to_run
unfolding deliver step step_by unless and_then in_order for_each
returns-clause-wakes_to_run c = refl

pub returns-clause-wakes_nobody_early : goal.returns-clause-wakes_nobody_early
unfolding deliver step step_by unless and_then in_order for_each
returns-clause-wakes_nobody_early c = refl

pub returns-clause-no_more : goal.returns-clause-no_more
unfolding deliver step step_by unless and_then in_order for_each
returns-clause-no_more c = refl

pub returns-clause-sleeps_for_ever : goal.returns-clause-sleeps_for_ever
unfolding deliver step step_by unless and_then in_order for_each
returns-clause-sleeps_for_ever c = refl

pub returns-clause-sleeps_the_longest : goal.returns-clause-sleeps_the_longest
unfolding deliver step step_by unless and_then in_order for_each
returns-clause-sleeps_the_longest c = refl

pub returns-clause-none_once_ended : goal.returns-clause-none_once_ended
unfolding deliver step step_by unless and_then in_order for_each
returns-clause-none_once_ended c = refl
