use Rattle.lwp_types.specs.Agents.{deliver}
use Rattle.lwp_types.specs.Case.{unless}
use Rattle.lwp_types.specs.State.{and_then, for_each, in_order}
use Rattle.lwp_types.specs.Step.{step, step_by}
use Rattle.pod_events.proofs.rows.lines_that_wait.Goals as goal
use Rattle.pod_events.specs.Events.{take_event}
use Rattle.pod_events.specs.Step.{event_step, event_step_by}
use Rattle.std.proofs.Common.{refl}

pub returns-clause-idle : goal.returns-clause-idle
unfolding event_step event_step_by take_event step step_by deliver unless and_then for_each in_order
returns-clause-idle c = refl

pub returns-clause-clock : goal.returns-clause-clock
unfolding event_step event_step_by take_event step step_by deliver unless and_then for_each in_order
returns-clause-clock c = refl

pub returns-clause-another : goal.returns-clause-another
unfolding event_step event_step_by take_event step step_by deliver unless and_then for_each in_order
returns-clause-another c = refl

pub returns-clause-again : goal.returns-clause-again
unfolding event_step event_step_by take_event step step_by deliver unless and_then for_each in_order
returns-clause-again c = refl
