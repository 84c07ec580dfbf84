use Rattle.line_server.specs.Sessions.{session_next}
use Rattle.line_server.specs.Stores.{store_next}
use Rattle.lwp_serve.specs.Plan.Planned.{calls_of, halt_of, takes_of, trace_of}
use Rattle.lwp_types.specs.Agents.{deliver}
use Rattle.lwp_types.specs.Case.{unless}
use Rattle.lwp_types.specs.State.{and_then, for_each, in_order}
use Rattle.lwp_types.specs.Step.{step, step_by}
use Rattle.pod_events.specs.Events.{take_event}
use Rattle.pod_events.specs.Step.{event_step, event_step_by}
use Rattle.pod_runner.specs.Eager.{plan_whole, to_the_end}
use Rattle.pod_runner.specs.Over.{events}
use Rattle.pod_runner.specs.Session.{call_move, move, take_move}
use Rattle.script_body.specs.ScriptBody.{script_next}
use Rattle.std.proofs.Common.{refl}
use Rattle.std.specs.Fmt.{digits}
use Rattle.worked_rows.proofs.exits.unwinding.Goals as goal

pub returns-clause-raise_through_two_frames : goal.returns-clause-raise_through_two_frames
unfolding trace_of halt_of calls_of takes_of plan_whole to_the_end events move call_move take_move script_next session_next store_next
    event_step event_step_by take_event step step_by deliver unless and_then in_order for_each digits
returns-clause-raise_through_two_frames c = (refl, refl, refl, refl)

pub returns-clause-exit_that_replies : goal.returns-clause-exit_that_replies
unfolding trace_of halt_of calls_of takes_of plan_whole to_the_end events move call_move take_move script_next session_next store_next
    event_step event_step_by take_event step step_by deliver unless and_then in_order for_each digits
returns-clause-exit_that_replies c = (refl, refl, refl, refl)

pub returns-clause-at_a_return : goal.returns-clause-at_a_return
unfolding trace_of halt_of calls_of takes_of plan_whole to_the_end events move call_move take_move script_next session_next store_next
    event_step event_step_by take_event step step_by deliver unless and_then in_order for_each digits
returns-clause-at_a_return c = (refl, refl, refl, refl)

pub returns-clause-those_of_the_handlers_frame_stay : goal.returns-clause-those_of_the_handlers_frame_stay
unfolding trace_of halt_of calls_of takes_of plan_whole to_the_end events move call_move take_move script_next session_next store_next
    event_step event_step_by take_event step step_by deliver unless and_then in_order for_each digits
returns-clause-those_of_the_handlers_frame_stay c = (refl, refl, refl, refl)

pub returns-clause-a_raise_within_one_frame : goal.returns-clause-a_raise_within_one_frame
unfolding trace_of halt_of calls_of takes_of plan_whole to_the_end events move call_move take_move script_next session_next store_next
    event_step event_step_by take_event step step_by deliver unless and_then in_order for_each digits
returns-clause-a_raise_within_one_frame c = (refl, refl, refl, refl)

pub returns-clause-a_caught_notification : goal.returns-clause-a_caught_notification
unfolding trace_of halt_of calls_of takes_of plan_whole to_the_end events move call_move take_move script_next session_next store_next
    event_step event_step_by take_event step step_by deliver unless and_then in_order for_each digits
returns-clause-a_caught_notification c = (refl, refl, refl, refl)

pub returns-clause-numbers_over_all_threads : goal.returns-clause-numbers_over_all_threads
unfolding trace_of halt_of calls_of takes_of plan_whole to_the_end events move call_move take_move script_next session_next store_next
    event_step event_step_by take_event step step_by deliver unless and_then in_order for_each digits
returns-clause-numbers_over_all_threads c = (refl, refl, refl, refl)

pub returns-clause-names_as_they_were : goal.returns-clause-names_as_they_were
unfolding trace_of halt_of calls_of takes_of plan_whole to_the_end events move call_move take_move script_next session_next store_next
    event_step event_step_by take_event step step_by deliver unless and_then in_order for_each digits
returns-clause-names_as_they_were c = (refl, refl, refl, refl)

pub returns-clause-an_exit_may_name_the_dead : goal.returns-clause-an_exit_may_name_the_dead
unfolding trace_of halt_of calls_of takes_of plan_whole to_the_end events move call_move take_move script_next session_next store_next
    event_step event_step_by take_event step step_by deliver unless and_then in_order for_each digits
returns-clause-an_exit_may_name_the_dead c = (refl, refl, refl, refl)
