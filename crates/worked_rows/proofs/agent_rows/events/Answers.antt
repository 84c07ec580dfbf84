use Rattle.line_server.specs.Sessions.{session_next}
use Rattle.line_server.specs.Stores.{store_next}
use Rattle.lwp_serve.specs.Plan.Planned.{calls_of, halt_of, takes_of, trace_of}
use Rattle.lwp_types.specs.Agents.{deliver}
use Rattle.lwp_types.specs.Case.{unless}
use Rattle.lwp_types.specs.State.{and_then, for_each, in_order}
use Rattle.lwp_types.specs.Step.{step, step_by}
use Rattle.pod_events.specs.Events.{take_event}
use Rattle.pod_events.specs.Step.{event_step, event_step_by}
use Rattle.pod_runner.specs.Eager.{plan_whole, to_the_end}
use Rattle.pod_runner.specs.Over.{events}
use Rattle.pod_runner.specs.Session.{call_move, move, take_move}
use Rattle.script_body.specs.ScriptBody.{script_next}
use Rattle.std.proofs.Common.{refl}
use Rattle.std.specs.Fmt.{digits}
use Rattle.worked_rows.proofs.agent_rows.events.Goals as goal

pub returns-clause-agent_without_reply : goal.returns-clause-agent_without_reply
unfolding trace_of halt_of calls_of takes_of plan_whole to_the_end events move call_move take_move script_next session_next store_next
    event_step event_step_by take_event step step_by deliver unless and_then in_order for_each digits
returns-clause-agent_without_reply c = (refl, refl, refl, refl)

pub returns-clause-agent_without_reply_exact_turns : goal.returns-clause-agent_without_reply_exact_turns
unfolding trace_of halt_of calls_of takes_of plan_whole to_the_end events move call_move take_move script_next session_next store_next
    event_step event_step_by take_event step step_by deliver unless and_then in_order for_each digits
returns-clause-agent_without_reply_exact_turns c = (refl, refl, refl, refl)

pub returns-clause-reply_and_next_event : goal.returns-clause-reply_and_next_event
unfolding trace_of halt_of calls_of takes_of plan_whole to_the_end events move call_move take_move script_next session_next store_next
    event_step event_step_by take_event step step_by deliver unless and_then in_order for_each digits
returns-clause-reply_and_next_event c = (refl, refl, refl, refl)

pub returns-clause-two_clients_one_event : goal.returns-clause-two_clients_one_event
unfolding trace_of halt_of calls_of takes_of plan_whole to_the_end events move call_move take_move script_next session_next store_next
    event_step event_step_by take_event step step_by deliver unless and_then in_order for_each digits
returns-clause-two_clients_one_event c = (refl, refl, refl, refl)

pub returns-clause-loop_then_reply_on_plan : goal.returns-clause-loop_then_reply_on_plan
unfolding trace_of halt_of calls_of takes_of plan_whole to_the_end events move call_move take_move script_next session_next store_next
    event_step event_step_by take_event step step_by deliver unless and_then in_order for_each digits
returns-clause-loop_then_reply_on_plan c = (refl, refl, refl, refl)

pub returns-clause-loop_then_reply_one_turn_fewer : goal.returns-clause-loop_then_reply_one_turn_fewer
unfolding trace_of halt_of calls_of takes_of plan_whole to_the_end events move call_move take_move script_next session_next store_next
    event_step event_step_by take_event step step_by deliver unless and_then in_order for_each digits
returns-clause-loop_then_reply_one_turn_fewer c = (refl, refl, refl, refl)

pub returns-clause-an_event_waits_for_its_agent : goal.returns-clause-an_event_waits_for_its_agent
unfolding trace_of halt_of calls_of takes_of plan_whole to_the_end events move call_move take_move script_next session_next store_next
    event_step event_step_by take_event step step_by deliver unless and_then in_order for_each digits
returns-clause-an_event_waits_for_its_agent c = (refl, refl, refl, refl)

pub returns-clause-taken_though_nobody_reads : goal.returns-clause-taken_though_nobody_reads
unfolding trace_of halt_of calls_of takes_of plan_whole to_the_end events move call_move take_move script_next session_next store_next
    event_step event_step_by take_event step step_by deliver unless and_then in_order for_each digits
returns-clause-taken_though_nobody_reads c = (refl, refl, refl, refl)

pub returns-clause-left_of_each_client : goal.returns-clause-left_of_each_client
unfolding trace_of halt_of calls_of takes_of plan_whole to_the_end events move call_move take_move script_next session_next store_next
    event_step event_step_by take_event step step_by deliver unless and_then in_order for_each digits
returns-clause-left_of_each_client c = (refl, refl, refl, refl)

pub returns-clause-events_in_rising_order : goal.returns-clause-events_in_rising_order
unfolding trace_of halt_of calls_of takes_of plan_whole to_the_end events move call_move take_move script_next session_next store_next
    event_step event_step_by take_event step step_by deliver unless and_then in_order for_each digits
returns-clause-events_in_rising_order c = (refl, refl, refl, refl)
