use Rattle.line_server.specs.Sessions.{session_next}
use Rattle.line_server.specs.Stores.{store_next}
use Rattle.lwp_serve.specs.Plan.Planned.{calls_of, halt_of, takes_of, trace_of}
use Rattle.lwp_types.specs.Agents.{deliver}
use Rattle.lwp_types.specs.Case.{unless}
use Rattle.lwp_types.specs.State.{and_then, for_each, in_order}
use Rattle.lwp_types.specs.Step.{step, step_by}
use Rattle.pod_events.specs.Events.{take_event}
use Rattle.pod_events.specs.Step.{event_step, event_step_by}
use Rattle.pod_runner.specs.Eager.{plan_whole, to_the_end}
use Rattle.pod_runner.specs.Over.{events}
use Rattle.pod_runner.specs.Session.{call_move, move, take_move}
use Rattle.script_body.specs.ScriptBody.{script_next}
use Rattle.std.proofs.Common.{refl}
use Rattle.std.specs.Fmt.{digits}
use Rattle.worked_rows.proofs.deaths.given_up.Goals as goal

pub returns-clause-death_with_received_letter : goal.returns-clause-death_with_received_letter
unfolding trace_of halt_of calls_of takes_of plan_whole to_the_end events move call_move take_move script_next session_next store_next
    event_step event_step_by take_event step step_by deliver unless and_then in_order for_each digits
returns-clause-death_with_received_letter c = (refl, refl, refl, refl)

pub returns-clause-exits_of_all_frames : goal.returns-clause-exits_of_all_frames
unfolding trace_of halt_of calls_of takes_of plan_whole to_the_end events move call_move take_move script_next session_next store_next
    event_step event_step_by take_event step step_by deliver unless and_then in_order for_each digits
returns-clause-exits_of_all_frames c = (refl, refl, refl, refl)

pub returns-clause-locks_last_acquired_first : goal.returns-clause-locks_last_acquired_first
unfolding trace_of halt_of calls_of takes_of plan_whole to_the_end events move call_move take_move script_next session_next store_next
    event_step event_step_by take_event step step_by deliver unless and_then in_order for_each digits
returns-clause-locks_last_acquired_first c = (refl, refl, refl, refl)

pub returns-clause-agents_in_birth_order : goal.returns-clause-agents_in_birth_order
unfolding trace_of halt_of calls_of takes_of plan_whole to_the_end events move call_move take_move script_next session_next store_next
    event_step event_step_by take_event step step_by deliver unless and_then in_order for_each digits
returns-clause-agents_in_birth_order c = (refl, refl, refl, refl)

pub returns-clause-senders_in_send_order : goal.returns-clause-senders_in_send_order
unfolding trace_of halt_of calls_of takes_of plan_whole to_the_end events move call_move take_move script_next session_next store_next
    event_step event_step_by take_event step step_by deliver unless and_then in_order for_each digits
returns-clause-senders_in_send_order c = (refl, refl, refl, refl)

pub returns-clause-named_receivers_in_birth_order : goal.returns-clause-named_receivers_in_birth_order
unfolding trace_of halt_of calls_of takes_of plan_whole to_the_end events move call_move take_move script_next session_next store_next
    event_step event_step_by take_event step step_by deliver unless and_then in_order for_each digits
returns-clause-named_receivers_in_birth_order c = (refl, refl, refl, refl)

pub returns-clause-joiners_in_birth_order : goal.returns-clause-joiners_in_birth_order
unfolding trace_of halt_of calls_of takes_of plan_whole to_the_end events move call_move take_move script_next session_next store_next
    event_step event_step_by take_event step step_by deliver unless and_then in_order for_each digits
returns-clause-joiners_in_birth_order c = (refl, refl, refl, refl)

pub returns-clause-all_at_once : goal.returns-clause-all_at_once
unfolding trace_of halt_of calls_of takes_of plan_whole to_the_end events move call_move take_move script_next session_next store_next
    event_step event_step_by take_event step step_by deliver unless and_then in_order for_each digits
returns-clause-all_at_once c = (refl, refl, refl, refl)

pub returns-clause-the_same_in_another_order : goal.returns-clause-the_same_in_another_order
unfolding trace_of halt_of calls_of takes_of plan_whole to_the_end events move call_move take_move script_next session_next store_next
    event_step event_step_by take_event step step_by deliver unless and_then in_order for_each digits
returns-clause-the_same_in_another_order c = (refl, refl, refl, refl)
