use Rattle.line_server.specs.Sessions.{session_next}
use Rattle.line_server.specs.Stores.{store_next}
use Rattle.lwp_serve.specs.Plan.Planned.{calls_of, halt_of, takes_of, trace_of}
use Rattle.lwp_types.specs.Agents.{deliver}
use Rattle.lwp_types.specs.Case.{unless}
use Rattle.lwp_types.specs.State.{and_then, for_each, in_order}
use Rattle.lwp_types.specs.Step.{step, step_by}
use Rattle.pod_events.specs.Events.{take_event}
use Rattle.pod_events.specs.Step.{event_step, event_step_by}
use Rattle.pod_runner.specs.Eager.{plan_whole, to_the_end}
use Rattle.pod_runner.specs.Over.{events}
use Rattle.pod_runner.specs.Session.{call_move, move, take_move}
use Rattle.script_body.specs.ScriptBody.{script_next}
use Rattle.std.proofs.Common.{refl}
use Rattle.std.specs.Fmt.{digits}
use Rattle.worked_rows.proofs.monitor_rows.entering.Goals as goal

pub returns-clause-breaking_a_lock : goal.returns-clause-breaking_a_lock
unfolding trace_of halt_of calls_of takes_of plan_whole to_the_end events move call_move take_move script_next session_next store_next
    event_step event_step_by take_event step step_by deliver unless and_then in_order for_each digits
returns-clause-breaking_a_lock c = (refl, refl, refl, refl)

pub returns-clause-monitor_requests : goal.returns-clause-monitor_requests
unfolding trace_of halt_of calls_of takes_of plan_whole to_the_end events move call_move take_move script_next session_next store_next
    event_step event_step_by take_event step step_by deliver unless and_then in_order for_each digits
returns-clause-monitor_requests c = (refl, refl, refl, refl)

pub returns-clause-no_such_monitor : goal.returns-clause-no_such_monitor
unfolding trace_of halt_of calls_of takes_of plan_whole to_the_end events move call_move take_move script_next session_next store_next
    event_step event_step_by take_event step step_by deliver unless and_then in_order for_each digits
returns-clause-no_such_monitor c = (refl, refl, refl, refl)

pub returns-clause-entered_again_and_again : goal.returns-clause-entered_again_and_again
unfolding trace_of halt_of calls_of takes_of plan_whole to_the_end events move call_move take_move script_next session_next store_next
    event_step event_step_by take_event step step_by deliver unless and_then in_order for_each digits
returns-clause-entered_again_and_again c = (refl, refl, refl, refl)

pub returns-clause-anothers_lock : goal.returns-clause-anothers_lock
unfolding trace_of halt_of calls_of takes_of plan_whole to_the_end events move call_move take_move script_next session_next store_next
    event_step event_step_by take_event step step_by deliver unless and_then in_order for_each digits
returns-clause-anothers_lock c = (refl, refl, refl, refl)

pub returns-clause-the_greatest_priority_enters_next : goal.returns-clause-the_greatest_priority_enters_next
unfolding trace_of halt_of calls_of takes_of plan_whole to_the_end events move call_move take_move script_next session_next store_next
    event_step event_step_by take_event step step_by deliver unless and_then in_order for_each digits
returns-clause-the_greatest_priority_enters_next c = (refl, refl, refl, refl)

pub returns-clause-a_broken_lock_passes_on : goal.returns-clause-a_broken_lock_passes_on
unfolding trace_of halt_of calls_of takes_of plan_whole to_the_end events move call_move take_move script_next session_next store_next
    event_step event_step_by take_event step step_by deliver unless and_then in_order for_each digits
returns-clause-a_broken_lock_passes_on c = (refl, refl, refl, refl)

pub returns-clause-monitors_and_their_waiters : goal.returns-clause-monitors_and_their_waiters
unfolding trace_of halt_of calls_of takes_of plan_whole to_the_end events move call_move take_move script_next session_next store_next
    event_step event_step_by take_event step step_by deliver unless and_then in_order for_each digits
returns-clause-monitors_and_their_waiters c = (refl, refl, refl, refl)

pub returns-clause-births_of_monitors_and_conditions : goal.returns-clause-births_of_monitors_and_conditions
unfolding trace_of halt_of calls_of takes_of plan_whole to_the_end events move call_move take_move script_next session_next store_next
    event_step event_step_by take_event step step_by deliver unless and_then in_order for_each digits
returns-clause-births_of_monitors_and_conditions c = (refl, refl, refl, refl)

pub returns-clause-a_suspended_owner : goal.returns-clause-a_suspended_owner
unfolding trace_of halt_of calls_of takes_of plan_whole to_the_end events move call_move take_move script_next session_next store_next
    event_step event_step_by take_event step step_by deliver unless and_then in_order for_each digits
returns-clause-a_suspended_owner c = (refl, refl, refl, refl)
