use Rattle.line_server.specs.Sessions.{session_next}
use Rattle.line_server.specs.Stores.{store_next}
use Rattle.lwp_serve.specs.Plan.Planned.{calls_of, halt_of, takes_of, trace_of}
use Rattle.lwp_types.specs.Agents.{deliver}
use Rattle.lwp_types.specs.Case.{unless}
use Rattle.lwp_types.specs.State.{and_then, for_each, in_order}
use Rattle.lwp_types.specs.Step.{step, step_by}
use Rattle.pod_events.specs.Events.{take_event}
use Rattle.pod_events.specs.Step.{event_step, event_step_by}
use Rattle.pod_runner.specs.Eager.{plan_whole, to_the_end}
use Rattle.pod_runner.specs.Over.{events}
use Rattle.pod_runner.specs.Session.{call_move, move, take_move}
use Rattle.script_body.specs.ScriptBody.{script_next}
use Rattle.std.proofs.Common.{refl}
use Rattle.std.specs.Fmt.{digits}
use Rattle.worked_rows.proofs.traps.raised.Goals as goal

pub returns-clause-the_trap : goal.returns-clause-the_trap
unfolding trace_of halt_of calls_of takes_of plan_whole to_the_end events move call_move take_move script_next session_next store_next
    event_step event_step_by take_event step step_by deliver unless and_then in_order for_each digits
returns-clause-the_trap c = (refl, refl, refl, refl)

pub returns-clause-the_trap_sum : goal.returns-clause-the_trap_sum
unfolding trace_of halt_of calls_of takes_of plan_whole to_the_end events move call_move take_move script_next session_next store_next
    event_step event_step_by take_event step step_by deliver unless and_then in_order for_each digits
returns-clause-the_trap_sum c = (refl, refl, refl, refl)

pub returns-clause-a_trap_that_gives : goal.returns-clause-a_trap_that_gives
unfolding trace_of halt_of calls_of takes_of plan_whole to_the_end events move call_move take_move script_next session_next store_next
    event_step event_step_by take_event step step_by deliver unless and_then in_order for_each digits
returns-clause-a_trap_that_gives c = (refl, refl, refl, refl)

pub returns-clause-in_who_is_chosen_then : goal.returns-clause-in_who_is_chosen_then
unfolding trace_of halt_of calls_of takes_of plan_whole to_the_end events move call_move take_move script_next session_next store_next
    event_step event_step_by take_event step step_by deliver unless and_then in_order for_each digits
returns-clause-in_who_is_chosen_then c = (refl, refl, refl, refl)

pub returns-clause-below_two_frames : goal.returns-clause-below_two_frames
unfolding trace_of halt_of calls_of takes_of plan_whole to_the_end events move call_move take_move script_next session_next store_next
    event_step event_step_by take_event step step_by deliver unless and_then in_order for_each digits
returns-clause-below_two_frames c = (refl, refl, refl, refl)

pub returns-clause-a_name_is_set_though_nothing_is_called : goal.returns-clause-a_name_is_set_though_nothing_is_called
unfolding trace_of halt_of calls_of takes_of plan_whole to_the_end events move call_move take_move script_next session_next store_next
    event_step event_step_by take_event step step_by deliver unless and_then in_order for_each digits
returns-clause-a_name_is_set_though_nothing_is_called c = (refl, refl, refl, refl)

pub returns-clause-caught_by_the_handler_set_last : goal.returns-clause-caught_by_the_handler_set_last
unfolding trace_of halt_of calls_of takes_of plan_whole to_the_end events move call_move take_move script_next session_next store_next
    event_step event_step_by take_event step step_by deliver unless and_then in_order for_each digits
returns-clause-caught_by_the_handler_set_last c = (refl, refl, refl, refl)
