use Rattle.line_server.specs.Sessions.{session_next}
use Rattle.line_server.specs.Stores.{store_next}
use Rattle.lwp_serve.specs.Plan.Planned.{calls_of, halt_of, takes_of, trace_of}
use Rattle.lwp_types.specs.Agents.{deliver}
use Rattle.lwp_types.specs.Case.{unless}
use Rattle.lwp_types.specs.State.{and_then, for_each, in_order}
use Rattle.lwp_types.specs.Step.{step, step_by}
use Rattle.pod_events.specs.Events.{take_event}
use Rattle.pod_events.specs.Step.{event_step, event_step_by}
use Rattle.pod_runner.specs.Eager.{plan_whole, to_the_end}
use Rattle.pod_runner.specs.Over.{events}
use Rattle.pod_runner.specs.Session.{call_move, move, take_move}
use Rattle.script_body.specs.ScriptBody.{script_next}
use Rattle.std.proofs.Common.{refl}
use Rattle.std.specs.Fmt.{digits}
use Rattle.worked_rows.proofs.traps.taken.Goals as goal

pub returns-clause-what_no_trap_takes : goal.returns-clause-what_no_trap_takes
unfolding trace_of halt_of calls_of takes_of plan_whole to_the_end events move call_move take_move script_next session_next store_next
    event_step event_step_by take_event step step_by deliver unless and_then in_order for_each digits
returns-clause-what_no_trap_takes c = (refl, refl, refl, refl)

pub returns-clause-trapped_behind_an_agent : goal.returns-clause-trapped_behind_an_agent
unfolding trace_of halt_of calls_of takes_of plan_whole to_the_end events move call_move take_move script_next session_next store_next
    event_step event_step_by take_event step step_by deliver unless and_then in_order for_each digits
returns-clause-trapped_behind_an_agent c = (refl, refl, refl, refl)

pub returns-clause-no_trap_where_nobody_may_run : goal.returns-clause-no_trap_where_nobody_may_run
unfolding trace_of halt_of calls_of takes_of plan_whole to_the_end events move call_move take_move script_next session_next store_next
    event_step event_step_by take_event step step_by deliver unless and_then in_order for_each digits
returns-clause-no_trap_where_nobody_may_run c = (refl, refl, refl, refl)

pub returns-clause-ticks_beside_a_trap : goal.returns-clause-ticks_beside_a_trap
unfolding trace_of halt_of calls_of takes_of plan_whole to_the_end events move call_move take_move script_next session_next store_next
    event_step event_step_by take_event step step_by deliver unless and_then in_order for_each digits
returns-clause-ticks_beside_a_trap c = (refl, refl, refl, refl)
