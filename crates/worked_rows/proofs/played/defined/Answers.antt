use Rattle.pod_runner.specs.Due.{IsDefined}
use Rattle.std.proofs.Common.{rules}
use Rattle.line_server.specs.Sessions.{session_next}
use Rattle.line_server.specs.Stores.{store_next}
use Rattle.lwp_types.specs.Agents.{deliver}
use Rattle.lwp_types.specs.Case.{unless}
use Rattle.lwp_types.specs.State.{and_then, for_each, in_order}
use Rattle.lwp_types.specs.Step.{step, step_by}
use Rattle.pod_events.specs.Events.{take_event}
use Rattle.pod_events.specs.Step.{event_step, event_step_by}
use Rattle.pod_runner.specs.Session.{call_move, move, take_move}
use Rattle.script_body.specs.ScriptBody.{script_next}
use Rattle.std.specs.Fmt.{digits}
use Rattle.pod_runner.specs.Play.{play}
use Rattle.worked_rows.proofs.played.defined.Goals as goal

pub returns-clause-opening : goal.returns-clause-opening
unfolding IsDefined play move call_move take_move script_next session_next store_next event_step event_step_by take_event step step_by
    deliver unless and_then in_order for_each digits
returns-clause-opening c = search rules

pub returns-clause-two_calls : goal.returns-clause-two_calls
unfolding IsDefined play move call_move take_move script_next session_next store_next event_step event_step_by take_event step step_by
    deliver unless and_then in_order for_each digits
returns-clause-two_calls c = search rules

pub returns-clause-late_take : goal.returns-clause-late_take
unfolding IsDefined play move call_move take_move script_next session_next store_next event_step event_step_by take_event step step_by
    deliver unless and_then in_order for_each digits
returns-clause-late_take c = search rules

pub returns-clause-no_third_call : goal.returns-clause-no_third_call
unfolding IsDefined play move call_move take_move script_next session_next store_next event_step event_step_by take_event step step_by
    deliver unless and_then in_order for_each digits
returns-clause-no_third_call c = search rules

pub returns-clause-not_armed : goal.returns-clause-not_armed
unfolding IsDefined play move call_move take_move script_next session_next store_next event_step event_step_by take_event step step_by
    deliver unless and_then in_order for_each digits
returns-clause-not_armed c = search rules

pub returns-clause-holding : goal.returns-clause-holding
unfolding IsDefined play move call_move take_move script_next session_next store_next event_step event_step_by take_event step step_by
    deliver unless and_then in_order for_each digits
returns-clause-holding c = search rules

pub returns-clause-above_the_calls : goal.returns-clause-above_the_calls
unfolding IsDefined play move call_move take_move script_next session_next store_next event_step event_step_by take_event step step_by
    deliver unless and_then in_order for_each digits
returns-clause-above_the_calls c = search rules

pub returns-clause-turns_that_fall : goal.returns-clause-turns_that_fall
unfolding IsDefined play move call_move take_move script_next session_next store_next event_step event_step_by take_event step step_by
    deliver unless and_then in_order for_each digits
returns-clause-turns_that_fall c = search rules
