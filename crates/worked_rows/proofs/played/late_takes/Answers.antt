use Rattle.line_server.specs.Sessions.{session_next}
use Rattle.line_server.specs.Stores.{store_next}
use Rattle.lwp_types.specs.Agents.{deliver}
use Rattle.lwp_types.specs.Case.{unless}
use Rattle.lwp_types.specs.State.{and_then, for_each, in_order}
use Rattle.lwp_types.specs.Step.{step, step_by}
use Rattle.pod_events.specs.Events.{take_event}
use Rattle.pod_events.specs.Step.{event_step, event_step_by}
use Rattle.pod_runner.specs.Session.{call_move, move, take_move}
use Rattle.script_body.specs.ScriptBody.{script_next}
use Rattle.std.proofs.Common.{refl}
use Rattle.std.specs.Fmt.{digits}
use Rattle.pod_runner.specs.Play.{play}
use Rattle.worked_rows.proofs.played.late_takes.Goals as goal

pub returns-clause-nothing : goal.returns-clause-nothing
unfolding play move call_move take_move script_next session_next store_next event_step event_step_by take_event step step_by deliver unless
    and_then in_order for_each digits
returns-clause-nothing c = refl

pub returns-clause-none_taken : goal.returns-clause-none_taken
unfolding play move call_move take_move script_next session_next store_next event_step event_step_by take_event step step_by deliver unless
    and_then in_order for_each digits
returns-clause-none_taken c = refl

pub returns-clause-before_the_receive : goal.returns-clause-before_the_receive
unfolding play move call_move take_move script_next session_next store_next event_step event_step_by take_event step step_by deliver unless
    and_then in_order for_each digits
returns-clause-before_the_receive c = refl

pub returns-clause-while_it_waits : goal.returns-clause-while_it_waits
unfolding play move call_move take_move script_next session_next store_next event_step event_step_by take_event step step_by deliver unless
    and_then in_order for_each digits
returns-clause-while_it_waits c = refl

pub returns-clause-while_it_waits_for_another : goal.returns-clause-while_it_waits_for_another
unfolding play move call_move take_move script_next session_next store_next event_step event_step_by take_event step step_by deliver unless
    and_then in_order for_each digits
returns-clause-while_it_waits_for_another c = refl

pub returns-clause-after_the_last_call : goal.returns-clause-after_the_last_call
unfolding play move call_move take_move script_next session_next store_next event_step event_step_by take_event step step_by deliver unless
    and_then in_order for_each digits
returns-clause-after_the_last_call c = refl
