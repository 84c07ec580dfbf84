use Rattle.line_server.specs.Sessions.{session_next}
use Rattle.line_server.specs.Stores.{store_next}
use Rattle.lwp_serve.specs.Plan.Planned.{calls_of, halt_of, takes_of, trace_of}
use Rattle.lwp_types.specs.Agents.{deliver}
use Rattle.lwp_types.specs.Case.{unless}
use Rattle.lwp_types.specs.State.{and_then, for_each, in_order}
use Rattle.lwp_types.specs.Step.{step, step_by}
use Rattle.pod_events.specs.Events.{take_event}
use Rattle.pod_events.specs.Step.{event_step, event_step_by}
use Rattle.pod_runner.specs.Eager.{plan_whole, to_the_end}
use Rattle.pod_runner.specs.Over.{events}
use Rattle.pod_runner.specs.Session.{call_move, move, take_move}
use Rattle.script_body.specs.ScriptBody.{script_next}
use Rattle.std.proofs.Common.{refl}
use Rattle.std.specs.Fmt.{digits}
use Rattle.worked_rows.proofs.threads.creating.Goals as goal

pub returns-clause-greatest_priority_of_all : goal.returns-clause-greatest_priority_of_all
unfolding trace_of halt_of calls_of takes_of plan_whole to_the_end events move call_move take_move script_next session_next store_next
    event_step event_step_by take_event step step_by deliver unless and_then in_order for_each digits
returns-clause-greatest_priority_of_all c = (refl, refl, refl, refl)

pub returns-clause-create_is_refused_in_order : goal.returns-clause-create_is_refused_in_order
unfolding trace_of halt_of calls_of takes_of plan_whole to_the_end events move call_move take_move script_next session_next store_next
    event_step event_step_by take_event step step_by deliver unless and_then in_order for_each digits
returns-clause-create_is_refused_in_order c = (refl, refl, refl, refl)

pub returns-clause-last_birth : goal.returns-clause-last_birth
unfolding trace_of halt_of calls_of takes_of plan_whole to_the_end events move call_move take_move script_next session_next store_next
    event_step event_step_by take_event step step_by deliver unless and_then in_order for_each digits
returns-clause-last_birth c = (refl, refl, refl, refl)

pub returns-clause-an_agent_is_a_birth : goal.returns-clause-an_agent_is_a_birth
unfolding trace_of halt_of calls_of takes_of plan_whole to_the_end events move call_move take_move script_next session_next store_next
    event_step event_step_by take_event step step_by deliver unless and_then in_order for_each digits
returns-clause-an_agent_is_a_birth c = (refl, refl, refl, refl)

pub returns-clause-created_suspended : goal.returns-clause-created_suspended
unfolding trace_of halt_of calls_of takes_of plan_whole to_the_end events move call_move take_move script_next session_next store_next
    event_step event_step_by take_event step step_by deliver unless and_then in_order for_each digits
returns-clause-created_suspended c = (refl, refl, refl, refl)

pub returns-clause-flags_in_all_forms : goal.returns-clause-flags_in_all_forms
unfolding trace_of halt_of calls_of takes_of plan_whole to_the_end events move call_move take_move script_next session_next store_next
    event_step event_step_by take_event step step_by deliver unless and_then in_order for_each digits
returns-clause-flags_in_all_forms c = (refl, refl, refl, refl)
