use Rattle.line_server.specs.Sessions.{session_next}
use Rattle.line_server.specs.Stores.{store_next}
use Rattle.lwp_serve.specs.Plan.Planned.{calls_of, halt_of, takes_of, trace_of}
use Rattle.lwp_types.specs.Agents.{deliver}
use Rattle.lwp_types.specs.Case.{unless}
use Rattle.lwp_types.specs.State.{and_then, for_each, in_order}
use Rattle.lwp_types.specs.Step.{step, step_by}
use Rattle.pod_events.specs.Events.{take_event}
use Rattle.pod_events.specs.Step.{event_step, event_step_by}
use Rattle.pod_runner.specs.Eager.{plan_whole, to_the_end}
use Rattle.pod_runner.specs.Over.{events}
use Rattle.pod_runner.specs.Session.{call_move, move, take_move}
use Rattle.script_body.specs.ScriptBody.{script_next}
use Rattle.std.proofs.Common.{refl}
use Rattle.std.specs.Fmt.{digits}
use Rattle.worked_rows.proofs.line_rows.three_clients.Goals as goal

pub returns-clause-whole : goal.returns-clause-whole
unfolding trace_of halt_of calls_of takes_of plan_whole to_the_end events move call_move take_move script_next session_next store_next
    event_step event_step_by take_event step step_by deliver unless and_then in_order for_each digits
returns-clause-whole c = (refl, refl, refl, refl)

pub returns-clause-exact_turns : goal.returns-clause-exact_turns
unfolding trace_of halt_of calls_of takes_of plan_whole to_the_end events move call_move take_move script_next session_next store_next
    event_step event_step_by take_event step step_by deliver unless and_then in_order for_each digits
returns-clause-exact_turns c = (refl, refl, refl, refl)

pub returns-clause-one_turn_fewer : goal.returns-clause-one_turn_fewer
unfolding trace_of halt_of calls_of takes_of plan_whole to_the_end events move call_move take_move script_next session_next store_next
    event_step event_step_by take_event step step_by deliver unless and_then in_order for_each digits
returns-clause-one_turn_fewer c = (refl, refl, refl, refl)
