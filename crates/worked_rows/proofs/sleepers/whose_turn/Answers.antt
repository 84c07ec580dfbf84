use Rattle.line_server.specs.Sessions.{session_next}
use Rattle.line_server.specs.Stores.{store_next}
use Rattle.lwp_serve.specs.Plan.Planned.{calls_of, halt_of, takes_of, trace_of}
use Rattle.lwp_types.specs.Agents.{deliver}
use Rattle.lwp_types.specs.Case.{unless}
use Rattle.lwp_types.specs.State.{and_then, for_each, in_order}
use Rattle.lwp_types.specs.Step.{step, step_by}
use Rattle.pod_events.specs.Events.{take_event}
use Rattle.pod_events.specs.Step.{event_step, event_step_by}
use Rattle.pod_runner.specs.Eager.{plan_whole, to_the_end}
use Rattle.pod_runner.specs.Over.{events}
use Rattle.pod_runner.specs.Session.{call_move, move, take_move}
use Rattle.script_body.specs.ScriptBody.{script_next}
use Rattle.std.proofs.Common.{refl}
use Rattle.std.specs.Fmt.{digits}
use Rattle.worked_rows.proofs.sleepers.whose_turn.Goals as goal

pub returns-clause-a_sleep_of_none_moves_nobody : goal.returns-clause-a_sleep_of_none_moves_nobody
unfolding trace_of halt_of calls_of takes_of plan_whole to_the_end events move call_move take_move script_next session_next store_next
    event_step event_step_by take_event step step_by deliver unless and_then in_order for_each digits
returns-clause-a_sleep_of_none_moves_nobody c = (refl, refl, refl, refl)

pub returns-clause-arrival_before_priority : goal.returns-clause-arrival_before_priority
unfolding trace_of halt_of calls_of takes_of plan_whole to_the_end events move call_move take_move script_next session_next store_next
    event_step event_step_by take_event step step_by deliver unless and_then in_order for_each digits
returns-clause-arrival_before_priority c = (refl, refl, refl, refl)

pub returns-clause-a_later_arrival_is_due_first : goal.returns-clause-a_later_arrival_is_due_first
unfolding trace_of halt_of calls_of takes_of plan_whole to_the_end events move call_move take_move script_next session_next store_next
    event_step event_step_by take_event step step_by deliver unless and_then in_order for_each digits
returns-clause-a_later_arrival_is_due_first c = (refl, refl, refl, refl)

pub returns-clause-a_tick_wakes_a_greater_priority : goal.returns-clause-a_tick_wakes_a_greater_priority
unfolding trace_of halt_of calls_of takes_of plan_whole to_the_end events move call_move take_move script_next session_next store_next
    event_step event_step_by take_event step step_by deliver unless and_then in_order for_each digits
returns-clause-a_tick_wakes_a_greater_priority c = (refl, refl, refl, refl)

pub returns-clause-ticks_while_nobody_sleeps : goal.returns-clause-ticks_while_nobody_sleeps
unfolding trace_of halt_of calls_of takes_of plan_whole to_the_end events move call_move take_move script_next session_next store_next
    event_step event_step_by take_event step step_by deliver unless and_then in_order for_each digits
returns-clause-ticks_while_nobody_sleeps c = (refl, refl, refl, refl)

pub returns-clause-two_clients_on_the_clock : goal.returns-clause-two_clients_on_the_clock
unfolding trace_of halt_of calls_of takes_of plan_whole to_the_end events move call_move take_move script_next session_next store_next
    event_step event_step_by take_event step step_by deliver unless and_then in_order for_each digits
returns-clause-two_clients_on_the_clock c = (refl, refl, refl, refl)

pub returns-clause-the_clock_before_an_agent : goal.returns-clause-the_clock_before_an_agent
unfolding trace_of halt_of calls_of takes_of plan_whole to_the_end events move call_move take_move script_next session_next store_next
    event_step event_step_by take_event step step_by deliver unless and_then in_order for_each digits
returns-clause-the_clock_before_an_agent c = (refl, refl, refl, refl)

pub returns-clause-a_priority_that_changes_asleep : goal.returns-clause-a_priority_that_changes_asleep
unfolding trace_of halt_of calls_of takes_of plan_whole to_the_end events move call_move take_move script_next session_next store_next
    event_step event_step_by take_event step step_by deliver unless and_then in_order for_each digits
returns-clause-a_priority_that_changes_asleep c = (refl, refl, refl, refl)
