use Rattle.line_server.specs.Sessions.{session_next}
use Rattle.line_server.specs.Stores.{store_next}
use Rattle.script_body.specs.ScriptBody.{script_next}
use Rattle.std.proofs.Common.{refl}
use Rattle.std.specs.Fmt.{digits}
use Rattle.worked_rows.proofs.next_calls.stores_go_on.Goals as goal

pub returns-clause-start : goal.returns-clause-start
unfolding script_next session_next store_next digits
returns-clause-start c = refl

pub returns-clause-a_letter : goal.returns-clause-a_letter
unfolding script_next session_next store_next digits
returns-clause-a_letter c = refl

pub returns-clause-a_refused_receive : goal.returns-clause-a_refused_receive
unfolding script_next session_next store_next digits
returns-clause-a_refused_receive c = refl

pub returns-clause-a_reply_that_is_too_long : goal.returns-clause-a_reply_that_is_too_long
unfolding script_next session_next store_next digits
returns-clause-a_reply_that_is_too_long c = refl

pub returns-clause-a_refused_reply : goal.returns-clause-a_refused_reply
unfolding script_next session_next store_next digits
returns-clause-a_refused_reply c = refl

pub returns-clause-a_refused_empty_reply : goal.returns-clause-a_refused_empty_reply
unfolding script_next session_next store_next digits
returns-clause-a_refused_empty_reply c = refl

pub returns-clause-no_letter : goal.returns-clause-no_letter
unfolding script_next session_next store_next digits
returns-clause-no_letter c = refl

pub returns-clause-a_letter_to_a_reply : goal.returns-clause-a_letter_to_a_reply
unfolding script_next session_next store_next digits
returns-clause-a_letter_to_a_reply c = refl

pub returns-clause-a_letter_to_an_empty_reply : goal.returns-clause-a_letter_to_an_empty_reply
unfolding script_next session_next store_next digits
returns-clause-a_letter_to_an_empty_reply c = refl
