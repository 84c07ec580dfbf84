use Rattle.line_server.specs.Sessions.{session_next}
use Rattle.line_server.specs.Stores.{store_next}
use Rattle.script_body.specs.ScriptBody.{script_next}
use Rattle.std.proofs.Common.{refl}
use Rattle.std.specs.Fmt.{digits}
use Rattle.worked_rows.proofs.next_calls.scripted_threads.Goals as goal

pub returns-clause-caught_below_all : goal.returns-clause-caught_below_all
unfolding script_next session_next store_next digits
returns-clause-caught_below_all c = refl

pub returns-clause-caught_above_all : goal.returns-clause-caught_above_all
unfolding script_next session_next store_next digits
returns-clause-caught_above_all c = refl

pub returns-clause-caught_without_a_place : goal.returns-clause-caught_without_a_place
unfolding script_next session_next store_next digits
returns-clause-caught_without_a_place c = refl

pub returns-clause-caught_where_there_is_none : goal.returns-clause-caught_where_there_is_none
unfolding script_next session_next store_next digits
returns-clause-caught_where_there_is_none c = refl

pub returns-clause-removed_without_a_place : goal.returns-clause-removed_without_a_place
unfolding script_next session_next store_next digits
returns-clause-removed_without_a_place c = refl

pub returns-clause-returned_from_the_last : goal.returns-clause-returned_from_the_last
unfolding script_next session_next store_next digits
returns-clause-returned_from_the_last c = refl

pub returns-clause-return_refused : goal.returns-clause-return_refused
unfolding script_next session_next store_next digits
returns-clause-return_refused c = refl
