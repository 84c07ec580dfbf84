use Rattle.line_server.specs.Sessions.{session_next}
use Rattle.line_server.specs.Stores.{store_next}
use Rattle.script_body.specs.ScriptBody.{script_next}
use Rattle.std.proofs.Common.{refl}
use Rattle.std.specs.Fmt.{digits}
use Rattle.worked_rows.proofs.next_calls.sessions_go_on.Goals as goal

pub returns-clause-start : goal.returns-clause-start
unfolding script_next session_next store_next digits
returns-clause-start c = refl

pub returns-clause-no_agent : goal.returns-clause-no_agent
unfolding script_next session_next store_next digits
returns-clause-no_agent c = refl

pub returns-clause-no_letter_ever : goal.returns-clause-no_letter_ever
unfolding script_next session_next store_next digits
returns-clause-no_letter_ever c = refl

pub returns-clause-down : goal.returns-clause-down
unfolding script_next session_next store_next digits
returns-clause-down c = refl

pub returns-clause-a_refused_reply : goal.returns-clause-a_refused_reply
unfolding script_next session_next store_next digits
returns-clause-a_refused_reply c = refl

pub returns-clause-a_refused_bye : goal.returns-clause-a_refused_bye
unfolding script_next session_next store_next digits
returns-clause-a_refused_bye c = refl
