use Rattle.line_server.specs.Sessions.{session_next}
use Rattle.line_server.specs.Stores.{store_next}
use Rattle.lwp_serve.specs.Plan.Planned.{calls_of, halt_of, takes_of, trace_of}
use Rattle.lwp_types.specs.Agents.{deliver}
use Rattle.lwp_types.specs.Case.{unless}
use Rattle.lwp_types.specs.State.{and_then, for_each, in_order}
use Rattle.lwp_types.specs.Step.{step, step_by}
use Rattle.pod_events.specs.Events.{take_event}
use Rattle.pod_events.specs.Step.{event_step, event_step_by}
use Rattle.pod_runner.specs.Eager.{plan_whole, to_the_end}
use Rattle.pod_runner.specs.Over.{events}
use Rattle.pod_runner.specs.Session.{call_move, move, take_move}
use Rattle.script_body.specs.ScriptBody.{script_next}
use Rattle.std.proofs.Common.{refl}
use Rattle.std.specs.Fmt.{digits}
use Rattle.worked_rows.proofs.ends.ways_to_end.Goals as goal

pub returns-clause-pod_exit : goal.returns-clause-pod_exit
unfolding trace_of halt_of calls_of takes_of plan_whole to_the_end events move call_move take_move script_next session_next store_next
    event_step event_step_by take_event step step_by deliver unless and_then in_order for_each digits
returns-clause-pod_exit c = (refl, refl, refl, refl)

pub returns-clause-statuses_at_both_ends : goal.returns-clause-statuses_at_both_ends
unfolding trace_of halt_of calls_of takes_of plan_whole to_the_end events move call_move take_move script_next session_next store_next
    event_step event_step_by take_event step step_by deliver unless and_then in_order for_each digits
returns-clause-statuses_at_both_ends c = (refl, refl, refl, refl)

pub returns-clause-podexit_whoever_lives : goal.returns-clause-podexit_whoever_lives
unfolding trace_of halt_of calls_of takes_of plan_whole to_the_end events move call_move take_move script_next session_next store_next
    event_step event_step_by take_event step step_by deliver unless and_then in_order for_each digits
returns-clause-podexit_whoever_lives c = (refl, refl, refl, refl)

pub returns-clause-podexit_with_0 : goal.returns-clause-podexit_with_0
unfolding trace_of halt_of calls_of takes_of plan_whole to_the_end events move call_move take_move script_next session_next store_next
    event_step event_step_by take_event step step_by deliver unless and_then in_order for_each digits
returns-clause-podexit_with_0 c = (refl, refl, refl, refl)

pub returns-clause-a_server_suspends_itself : goal.returns-clause-a_server_suspends_itself
unfolding trace_of halt_of calls_of takes_of plan_whole to_the_end events move call_move take_move script_next session_next store_next
    event_step event_step_by take_event step step_by deliver unless and_then in_order for_each digits
returns-clause-a_server_suspends_itself c = (refl, refl, refl, refl)

pub returns-clause-servers_alone : goal.returns-clause-servers_alone
unfolding trace_of halt_of calls_of takes_of plan_whole to_the_end events move call_move take_move script_next session_next store_next
    event_step event_step_by take_event step step_by deliver unless and_then in_order for_each digits
returns-clause-servers_alone c = (refl, refl, refl, refl)

pub returns-clause-a_suspended_server_is_not_waited_for : goal.returns-clause-a_suspended_server_is_not_waited_for
unfolding trace_of halt_of calls_of takes_of plan_whole to_the_end events move call_move take_move script_next session_next store_next
    event_step event_step_by take_event step step_by deliver unless and_then in_order for_each digits
returns-clause-a_suspended_server_is_not_waited_for c = (refl, refl, refl, refl)

pub returns-clause-a_server_that_may_run : goal.returns-clause-a_server_that_may_run
unfolding trace_of halt_of calls_of takes_of plan_whole to_the_end events move call_move take_move script_next session_next store_next
    event_step event_step_by take_event step step_by deliver unless and_then in_order for_each digits
returns-clause-a_server_that_may_run c = (refl, refl, refl, refl)

pub returns-clause-a_suspended_thread_keeps_the_pod : goal.returns-clause-a_suspended_thread_keeps_the_pod
unfolding trace_of halt_of calls_of takes_of plan_whole to_the_end events move call_move take_move script_next session_next store_next
    event_step event_step_by take_event step step_by deliver unless and_then in_order for_each digits
returns-clause-a_suspended_thread_keeps_the_pod c = (refl, refl, refl, refl)

pub returns-clause-threads_that_join_each_other : goal.returns-clause-threads_that_join_each_other
unfolding trace_of halt_of calls_of takes_of plan_whole to_the_end events move call_move take_move script_next session_next store_next
    event_step event_step_by take_event step step_by deliver unless and_then in_order for_each digits
returns-clause-threads_that_join_each_other c = (refl, refl, refl, refl)
