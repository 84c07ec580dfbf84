use Rattle.lwp_types.specs.Agents.{deliver}
use Rattle.lwp_types.specs.Case.{unless}
use Rattle.lwp_types.specs.State.{and_then, for_each, in_order}
use Rattle.lwp_types.specs.Step.{step, step_by}
use Rattle.pod_events.proofs.rows.traps_raised.Goals as goal
use Rattle.pod_events.specs.Events.{take_event}
use Rattle.pod_events.specs.Step.{event_step, event_step_by}
use Rattle.std.proofs.Common.{refl}

pub returns-clause-given : goal.returns-clause-given
unfolding event_step event_step_by take_event step step_by deliver unless and_then for_each in_order
returns-clause-given c = refl

pub returns-clause-unheard : goal.returns-clause-unheard
unfolding event_step event_step_by take_event step step_by deliver unless and_then for_each in_order
returns-clause-unheard c = refl

pub returns-clause-changed : goal.returns-clause-changed
unfolding event_step event_step_by take_event step step_by deliver unless and_then for_each in_order
returns-clause-changed c = refl

pub returns-clause-deep : goal.returns-clause-deep
unfolding event_step event_step_by take_event step step_by deliver unless and_then for_each in_order
returns-clause-deep c = refl

pub returns-clause-ticking : goal.returns-clause-ticking
unfolding event_step event_step_by take_event step step_by deliver unless and_then for_each in_order
returns-clause-ticking c = refl
