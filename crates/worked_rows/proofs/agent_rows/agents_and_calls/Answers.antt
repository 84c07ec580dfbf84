use Rattle.line_server.specs.Sessions.{session_next}
use Rattle.line_server.specs.Stores.{store_next}
use Rattle.lwp_serve.specs.Plan.Planned.{calls_of, halt_of, takes_of, trace_of}
use Rattle.lwp_types.specs.Agents.{deliver}
use Rattle.lwp_types.specs.Case.{unless}
use Rattle.lwp_types.specs.State.{and_then, for_each, in_order}
use Rattle.lwp_types.specs.Step.{step, step_by}
use Rattle.pod_events.specs.Events.{take_event}
use Rattle.pod_events.specs.Step.{event_step, event_step_by}
use Rattle.pod_runner.specs.Eager.{plan_whole, to_the_end}
use Rattle.pod_runner.specs.Over.{events}
use Rattle.pod_runner.specs.Session.{call_move, move, take_move}
use Rattle.script_body.specs.ScriptBody.{script_next}
use Rattle.std.proofs.Common.{refl}
use Rattle.std.specs.Fmt.{digits}
use Rattle.worked_rows.proofs.agent_rows.agents_and_calls.Goals as goal

pub returns-clause-lists_of_ids : goal.returns-clause-lists_of_ids
unfolding trace_of halt_of calls_of takes_of plan_whole to_the_end events move call_move take_move script_next session_next store_next
    event_step event_step_by take_event step step_by deliver unless and_then in_order for_each digits
returns-clause-lists_of_ids c = (refl, refl, refl, refl)

pub returns-clause-agent_dies_with_owner : goal.returns-clause-agent_dies_with_owner
unfolding trace_of halt_of calls_of takes_of plan_whole to_the_end events move call_move take_move script_next session_next store_next
    event_step event_step_by take_event step step_by deliver unless and_then in_order for_each digits
returns-clause-agent_dies_with_owner c = (refl, refl, refl, refl)

pub returns-clause-events_at_both_ends : goal.returns-clause-events_at_both_ends
unfolding trace_of halt_of calls_of takes_of plan_whole to_the_end events move call_move take_move script_next session_next store_next
    event_step event_step_by take_event step step_by deliver unless and_then in_order for_each digits
returns-clause-events_at_both_ends c = (refl, refl, refl, refl)

pub returns-clause-agent_is_refused_in_order : goal.returns-clause-agent_is_refused_in_order
unfolding trace_of halt_of calls_of takes_of plan_whole to_the_end events move call_move take_move script_next session_next store_next
    event_step event_step_by take_event step step_by deliver unless and_then in_order for_each digits
returns-clause-agent_is_refused_in_order c = (refl, refl, refl, refl)

pub returns-clause-a_reply_before_the_letter : goal.returns-clause-a_reply_before_the_letter
unfolding trace_of halt_of calls_of takes_of plan_whole to_the_end events move call_move take_move script_next session_next store_next
    event_step event_step_by take_event step step_by deliver unless and_then in_order for_each digits
returns-clause-a_reply_before_the_letter c = (refl, refl, refl, refl)

pub returns-clause-the_longest_reply_to_an_agent : goal.returns-clause-the_longest_reply_to_an_agent
unfolding trace_of halt_of calls_of takes_of plan_whole to_the_end events move call_move take_move script_next session_next store_next
    event_step event_step_by take_event step step_by deliver unless and_then in_order for_each digits
returns-clause-the_longest_reply_to_an_agent c = (refl, refl, refl, refl)

pub returns-clause-a_destroyed_agent_takes_its_letter : goal.returns-clause-a_destroyed_agent_takes_its_letter
unfolding trace_of halt_of calls_of takes_of plan_whole to_the_end events move call_move take_move script_next session_next store_next
    event_step event_step_by take_event step step_by deliver unless and_then in_order for_each digits
returns-clause-a_destroyed_agent_takes_its_letter c = (refl, refl, refl, refl)

pub returns-clause-a_destroyed_agent_refuses_who_waits : goal.returns-clause-a_destroyed_agent_refuses_who_waits
unfolding trace_of halt_of calls_of takes_of plan_whole to_the_end events move call_move take_move script_next session_next store_next
    event_step event_step_by take_event step step_by deliver unless and_then in_order for_each digits
returns-clause-a_destroyed_agent_refuses_who_waits c = (refl, refl, refl, refl)

pub returns-clause-an_owner_dies_with_a_message : goal.returns-clause-an_owner_dies_with_a_message
unfolding trace_of halt_of calls_of takes_of plan_whole to_the_end events move call_move take_move script_next session_next store_next
    event_step event_step_by take_event step step_by deliver unless and_then in_order for_each digits
returns-clause-an_owner_dies_with_a_message c = (refl, refl, refl, refl)

pub returns-clause-letters_of_threads_and_agents : goal.returns-clause-letters_of_threads_and_agents
unfolding trace_of halt_of calls_of takes_of plan_whole to_the_end events move call_move take_move script_next session_next store_next
    event_step event_step_by take_event step step_by deliver unless and_then in_order for_each digits
returns-clause-letters_of_threads_and_agents c = (refl, refl, refl, refl)
