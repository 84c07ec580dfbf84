use Rattle.line_server.specs.Sessions.{session_next}
use Rattle.line_server.specs.Stores.{store_next}
use Rattle.lwp_serve.specs.Plan.Planned.{calls_of, halt_of, takes_of, trace_of}
use Rattle.lwp_types.specs.Agents.{deliver}
use Rattle.lwp_types.specs.Case.{unless}
use Rattle.lwp_types.specs.State.{and_then, for_each, in_order}
use Rattle.lwp_types.specs.Step.{step, step_by}
use Rattle.pod_events.specs.Events.{take_event}
use Rattle.pod_events.specs.Step.{event_step, event_step_by}
use Rattle.pod_runner.specs.Eager.{plan_whole, to_the_end}
use Rattle.pod_runner.specs.Over.{events}
use Rattle.pod_runner.specs.Session.{call_move, move, take_move}
use Rattle.script_body.specs.ScriptBody.{script_next}
use Rattle.std.proofs.Common.{refl}
use Rattle.std.specs.Fmt.{digits}
use Rattle.worked_rows.proofs.scripts.statements.Goals as goal

pub returns-clause-skip_by_the_last_answer : goal.returns-clause-skip_by_the_last_answer
unfolding trace_of halt_of calls_of takes_of plan_whole to_the_end events move call_move take_move script_next session_next store_next
    event_step event_step_by take_event step step_by deliver unless and_then in_order for_each digits
returns-clause-skip_by_the_last_answer c = (refl, refl, refl, refl)

pub returns-clause-a_skip_over_a_skip : goal.returns-clause-a_skip_over_a_skip
unfolding trace_of halt_of calls_of takes_of plan_whole to_the_end events move call_move take_move script_next session_next store_next
    event_step event_step_by take_event step step_by deliver unless and_then in_order for_each digits
returns-clause-a_skip_over_a_skip c = (refl, refl, refl, refl)

pub returns-clause-a_skip_at_the_start : goal.returns-clause-a_skip_at_the_start
unfolding trace_of halt_of calls_of takes_of plan_whole to_the_end events move call_move take_move script_next session_next store_next
    event_step event_step_by take_event step step_by deliver unless and_then in_order for_each digits
returns-clause-a_skip_at_the_start c = (refl, refl, refl, refl)

pub returns-clause-a_skip_past_the_end : goal.returns-clause-a_skip_past_the_end
unfolding trace_of halt_of calls_of takes_of plan_whole to_the_end events move call_move take_move script_next session_next store_next
    event_step event_step_by take_event step step_by deliver unless and_then in_order for_each digits
returns-clause-a_skip_past_the_end c = (refl, refl, refl, refl)

pub returns-clause-an_id_is_no_value : goal.returns-clause-an_id_is_no_value
unfolding trace_of halt_of calls_of takes_of plan_whole to_the_end events move call_move take_move script_next session_next store_next
    event_step event_step_by take_event step step_by deliver unless and_then in_order for_each digits
returns-clause-an_id_is_no_value c = (refl, refl, refl, refl)

pub returns-clause-again_until_skipped : goal.returns-clause-again_until_skipped
unfolding trace_of halt_of calls_of takes_of plan_whole to_the_end events move call_move take_move script_next session_next store_next
    event_step event_step_by take_event step step_by deliver unless and_then in_order for_each digits
returns-clause-again_until_skipped c = (refl, refl, refl, refl)

pub returns-clause-a_refused_handle_has_no_place : goal.returns-clause-a_refused_handle_has_no_place
unfolding trace_of halt_of calls_of takes_of plan_whole to_the_end events move call_move take_move script_next session_next store_next
    event_step event_step_by take_event step step_by deliver unless and_then in_order for_each digits
returns-clause-a_refused_handle_has_no_place c = (refl, refl, refl, refl)

pub returns-clause-a_removed_handler_has_no_place : goal.returns-clause-a_removed_handler_has_no_place
unfolding trace_of halt_of calls_of takes_of plan_whole to_the_end events move call_move take_move script_next session_next store_next
    event_step event_step_by take_event step step_by deliver unless and_then in_order for_each digits
returns-clause-a_removed_handler_has_no_place c = (refl, refl, refl, refl)

pub returns-clause-caught_without_a_skip : goal.returns-clause-caught_without_a_skip
unfolding trace_of halt_of calls_of takes_of plan_whole to_the_end events move call_move take_move script_next session_next store_next
    event_step event_step_by take_event step step_by deliver unless and_then in_order for_each digits
returns-clause-caught_without_a_skip c = (refl, refl, refl, refl)
