use Rattle.line_server.specs.Sessions.{session_next}
use Rattle.line_server.specs.Stores.{store_next}
use Rattle.script_body.specs.ScriptBody.{script_next}
use Rattle.std.proofs.Common.{refl}
use Rattle.std.specs.Fmt.{digits}
use Rattle.worked_rows.proofs.next_calls.full_tables.Goals as goal

pub returns-clause-full : goal.returns-clause-full
unfolding script_next session_next store_next digits
returns-clause-full c = refl

pub returns-clause-unchanged : goal.returns-clause-unchanged
unfolding script_next session_next store_next digits
returns-clause-unchanged c = refl

pub returns-clause-put : goal.returns-clause-put
unfolding script_next session_next store_next digits
returns-clause-put c = refl

pub returns-clause-as_many : goal.returns-clause-as_many
unfolding script_next session_next store_next digits
returns-clause-as_many c = refl

pub returns-clause-got : goal.returns-clause-got
unfolding script_next session_next store_next digits
returns-clause-got c = refl

pub returns-clause-missing : goal.returns-clause-missing
unfolding script_next session_next store_next digits
returns-clause-missing c = refl

pub returns-clause-deleted : goal.returns-clause-deleted
unfolding script_next session_next store_next digits
returns-clause-deleted c = refl

pub returns-clause-room : goal.returns-clause-room
unfolding script_next session_next store_next digits
returns-clause-room c = refl
