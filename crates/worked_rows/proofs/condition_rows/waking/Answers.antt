use Rattle.line_server.specs.Sessions.{session_next}
use Rattle.line_server.specs.Stores.{store_next}
use Rattle.lwp_serve.specs.Plan.Planned.{calls_of, halt_of, takes_of, trace_of}
use Rattle.lwp_types.specs.Agents.{deliver}
use Rattle.lwp_types.specs.Case.{unless}
use Rattle.lwp_types.specs.State.{and_then, for_each, in_order}
use Rattle.lwp_types.specs.Step.{step, step_by}
use Rattle.pod_events.specs.Events.{take_event}
use Rattle.pod_events.specs.Step.{event_step, event_step_by}
use Rattle.pod_runner.specs.Eager.{plan_whole, to_the_end}
use Rattle.pod_runner.specs.Over.{events}
use Rattle.pod_runner.specs.Session.{call_move, move, take_move}
use Rattle.script_body.specs.ScriptBody.{script_next}
use Rattle.std.proofs.Common.{refl}
use Rattle.std.specs.Fmt.{digits}
use Rattle.worked_rows.proofs.condition_rows.waking.Goals as goal

pub returns-clause-depth_comes_back : goal.returns-clause-depth_comes_back
unfolding trace_of halt_of calls_of takes_of plan_whole to_the_end events move call_move take_move script_next session_next store_next
    event_step event_step_by take_event step step_by deliver unless and_then in_order for_each digits
returns-clause-depth_comes_back c = (refl, refl, refl, refl)

pub returns-clause-notify_wakes_the_greatest_priority : goal.returns-clause-notify_wakes_the_greatest_priority
unfolding trace_of halt_of calls_of takes_of plan_whole to_the_end events move call_move take_move script_next session_next store_next
    event_step event_step_by take_event step step_by deliver unless and_then in_order for_each digits
returns-clause-notify_wakes_the_greatest_priority c = (refl, refl, refl, refl)

pub returns-clause-notify_by_present_priority : goal.returns-clause-notify_by_present_priority
unfolding trace_of halt_of calls_of takes_of plan_whole to_the_end events move call_move take_move script_next session_next store_next
    event_step event_step_by take_event step step_by deliver unless and_then in_order for_each digits
returns-clause-notify_by_present_priority c = (refl, refl, refl, refl)

pub returns-clause-broadcast_in_arrival_order : goal.returns-clause-broadcast_in_arrival_order
unfolding trace_of halt_of calls_of takes_of plan_whole to_the_end events move call_move take_move script_next session_next store_next
    event_step event_step_by take_event step step_by deliver unless and_then in_order for_each digits
returns-clause-broadcast_in_arrival_order c = (refl, refl, refl, refl)

pub returns-clause-the_woken_come_last : goal.returns-clause-the_woken_come_last
unfolding trace_of halt_of calls_of takes_of plan_whole to_the_end events move call_move take_move script_next session_next store_next
    event_step event_step_by take_event step step_by deliver unless and_then in_order for_each digits
returns-clause-the_woken_come_last c = (refl, refl, refl, refl)

pub returns-clause-a_wait_hands_the_monitor_on : goal.returns-clause-a_wait_hands_the_monitor_on
unfolding trace_of halt_of calls_of takes_of plan_whole to_the_end events move call_move take_move script_next session_next store_next
    event_step event_step_by take_event step step_by deliver unless and_then in_order for_each digits
returns-clause-a_wait_hands_the_monitor_on c = (refl, refl, refl, refl)

pub returns-clause-a_wait_gives_up_one_monitor : goal.returns-clause-a_wait_gives_up_one_monitor
unfolding trace_of halt_of calls_of takes_of plan_whole to_the_end events move call_move take_move script_next session_next store_next
    event_step event_step_by take_event step step_by deliver unless and_then in_order for_each digits
returns-clause-a_wait_gives_up_one_monitor c = (refl, refl, refl, refl)

pub returns-clause-a_suspended_waiter : goal.returns-clause-a_suspended_waiter
unfolding trace_of halt_of calls_of takes_of plan_whole to_the_end events move call_move take_move script_next session_next store_next
    event_step event_step_by take_event step step_by deliver unless and_then in_order for_each digits
returns-clause-a_suspended_waiter c = (refl, refl, refl, refl)
