use Rattle.line_server.specs.Sessions.{session_next}
use Rattle.line_server.specs.Stores.{store_next}
use Rattle.lwp_types.specs.Agents.{deliver}
use Rattle.lwp_types.specs.Case.{unless}
use Rattle.lwp_types.specs.State.{and_then, for_each, in_order}
use Rattle.lwp_types.specs.Step.{step, step_by}
use Rattle.pod_events.specs.Events.{take_event}
use Rattle.pod_events.specs.Step.{event_step, event_step_by}
use Rattle.pod_runner.specs.Session.{call_move, move, take_move}
use Rattle.script_body.specs.ScriptBody.{script_next}
use Rattle.std.proofs.Common.{refl}
use Rattle.std.specs.Fmt.{digits}
use Rattle.pod_runner.specs.Play.{play}
use Rattle.worked_rows.proofs.played.armed.Goals as goal

pub returns-clause-until_it_is_taken : goal.returns-clause-until_it_is_taken
unfolding play move call_move take_move script_next session_next store_next event_step event_step_by take_event step step_by deliver unless
    and_then in_order for_each digits
returns-clause-until_it_is_taken c = refl

pub returns-clause-at_once : goal.returns-clause-at_once
unfolding play move call_move take_move script_next session_next store_next event_step event_step_by take_event step step_by deliver unless
    and_then in_order for_each digits
returns-clause-at_once c = refl

pub returns-clause-never_taken : goal.returns-clause-never_taken
unfolding play move call_move take_move script_next session_next store_next event_step event_step_by take_event step step_by deliver unless
    and_then in_order for_each digits
returns-clause-never_taken c = refl

pub returns-clause-another_event : goal.returns-clause-another_event
unfolding play move call_move take_move script_next session_next store_next event_step event_step_by take_event step step_by deliver unless
    and_then in_order for_each digits
returns-clause-another_event c = refl
