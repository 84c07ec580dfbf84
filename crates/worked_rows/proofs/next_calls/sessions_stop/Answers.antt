use Rattle.line_server.specs.Sessions.{session_next}
use Rattle.line_server.specs.Stores.{store_next}
use Rattle.script_body.specs.ScriptBody.{script_next}
use Rattle.std.proofs.Common.{refl}
use Rattle.std.specs.Fmt.{digits}
use Rattle.worked_rows.proofs.next_calls.sessions_stop.Goals as goal

pub returns-clause-agent_without_a_number : goal.returns-clause-agent_without_a_number
unfolding script_next session_next store_next digits
returns-clause-agent_without_a_number c = refl

pub returns-clause-no_letter : goal.returns-clause-no_letter
unfolding script_next session_next store_next digits
returns-clause-no_letter c = refl

pub returns-clause-no_reply : goal.returns-clause-no_reply
unfolding script_next session_next store_next digits
returns-clause-no_reply c = refl

pub returns-clause-a_letter_to_a_reply : goal.returns-clause-a_letter_to_a_reply
unfolding script_next session_next store_next digits
returns-clause-a_letter_to_a_reply c = refl

pub returns-clause-a_letter_to_the_last_reply : goal.returns-clause-a_letter_to_the_last_reply
unfolding script_next session_next store_next digits
returns-clause-a_letter_to_the_last_reply c = refl

pub returns-clause-a_catch : goal.returns-clause-a_catch
unfolding script_next session_next store_next digits
returns-clause-a_catch c = refl

pub returns-clause-after_its_return : goal.returns-clause-after_its_return
unfolding script_next session_next store_next digits
returns-clause-after_its_return c = refl

pub returns-clause-refused_after_its_return : goal.returns-clause-refused_after_its_return
unfolding script_next session_next store_next digits
returns-clause-refused_after_its_return c = refl
