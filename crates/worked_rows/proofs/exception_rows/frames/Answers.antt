use Rattle.line_server.specs.Sessions.{session_next}
use Rattle.line_server.specs.Stores.{store_next}
use Rattle.lwp_serve.specs.Plan.Planned.{calls_of, halt_of, takes_of, trace_of}
use Rattle.lwp_types.specs.Agents.{deliver}
use Rattle.lwp_types.specs.Case.{unless}
use Rattle.lwp_types.specs.State.{and_then, for_each, in_order}
use Rattle.lwp_types.specs.Step.{step, step_by}
use Rattle.pod_events.specs.Events.{take_event}
use Rattle.pod_events.specs.Step.{event_step, event_step_by}
use Rattle.pod_runner.specs.Eager.{plan_whole, to_the_end}
use Rattle.pod_runner.specs.Over.{events}
use Rattle.pod_runner.specs.Session.{call_move, move, take_move}
use Rattle.script_body.specs.ScriptBody.{script_next}
use Rattle.std.proofs.Common.{refl}
use Rattle.std.specs.Fmt.{digits}
use Rattle.worked_rows.proofs.exception_rows.frames.Goals as goal

pub returns-clause-called_and_returned : goal.returns-clause-called_and_returned
unfolding trace_of halt_of calls_of takes_of plan_whole to_the_end events move call_move take_move script_next session_next store_next
    event_step event_step_by take_event step step_by deliver unless and_then in_order for_each digits
returns-clause-called_and_returned c = (refl, refl, refl, refl)

pub returns-clause-no_such_procedure : goal.returns-clause-no_such_procedure
unfolding trace_of halt_of calls_of takes_of plan_whole to_the_end events move call_move take_move script_next session_next store_next
    event_step event_step_by take_event step step_by deliver unless and_then in_order for_each digits
returns-clause-no_such_procedure c = (refl, refl, refl, refl)

pub returns-clause-caught_in_the_frame_below : goal.returns-clause-caught_in_the_frame_below
unfolding trace_of halt_of calls_of takes_of plan_whole to_the_end events move call_move take_move script_next session_next store_next
    event_step event_step_by take_event step step_by deliver unless and_then in_order for_each digits
returns-clause-caught_in_the_frame_below c = (refl, refl, refl, refl)

pub returns-clause-caught_in_the_middle : goal.returns-clause-caught_in_the_middle
unfolding trace_of halt_of calls_of takes_of plan_whole to_the_end events move call_move take_move script_next session_next store_next
    event_step event_step_by take_event step step_by deliver unless and_then in_order for_each digits
returns-clause-caught_in_the_middle c = (refl, refl, refl, refl)

pub returns-clause-earlier_handlers_stay : goal.returns-clause-earlier_handlers_stay
unfolding trace_of halt_of calls_of takes_of plan_whole to_the_end events move call_move take_move script_next session_next store_next
    event_step event_step_by take_event step step_by deliver unless and_then in_order for_each digits
returns-clause-earlier_handlers_stay c = (refl, refl, refl, refl)

pub returns-clause-caught_by_the_third_of_a_frame : goal.returns-clause-caught_by_the_third_of_a_frame
unfolding trace_of halt_of calls_of takes_of plan_whole to_the_end events move call_move take_move script_next session_next store_next
    event_step event_step_by take_event step step_by deliver unless and_then in_order for_each digits
returns-clause-caught_by_the_third_of_a_frame c = (refl, refl, refl, refl)

pub returns-clause-handlers_go_with_their_frame : goal.returns-clause-handlers_go_with_their_frame
unfolding trace_of halt_of calls_of takes_of plan_whole to_the_end events move call_move take_move script_next session_next store_next
    event_step event_step_by take_event step step_by deliver unless and_then in_order for_each digits
returns-clause-handlers_go_with_their_frame c = (refl, refl, refl, refl)
