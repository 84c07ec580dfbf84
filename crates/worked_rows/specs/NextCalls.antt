-- What bodies do with answers that no session gives: they return, and nothing else changes. And what the built-in ones
-- do where no script can bring them.
use Rattle.line_server.specs.Sessions.{SessionBody}
use Rattle.line_server.specs.Stores.{StoreBody}
use Rattle.line_server.specs.Tables.{Table, value_reply}
use Rattle.line_server.specs.declared.session.SessionPlace.{SessionPlace}
use Rattle.line_server.specs.declared.store.StorePlace.{StorePlace}
use Rattle.lwp_types.specs.Names.{Names, null_names}
use Rattle.lwp_types.specs.Poll.{Next}
use Rattle.lwp_types.specs.declared.call.Answer.{Answer}
use Rattle.lwp_types.specs.declared.call.Call.{Call}
use Rattle.pod_runner.specs.Due.{numbers_to}
use Rattle.script_body.specs.Frame.{Frame}
use Rattle.script_body.specs.ScriptBody.{ScriptBody, script_opening}
use Rattle.script_text.specs.declared.script.Stmt.{Stmt}
use Rattle.std.specs.Fmt.{decimal}
use Rattle.std.specs.Prelude.{List, Some, [], codes, map, pos, ℕ, ◌++◌, ◌≡◌, ◌∷◌}
use Rattle.worked_rows.specs.Words.{named, pod, procedure}
use Rattle.lwp_types.specs.declared.call.Answer.TheVariants as answer
use Rattle.lwp_types.specs.declared.call.Call.TheVariants as call

-- one name of each kind
abbrev pub names : Names
names = null_names 1 1 1

-- the body returns, and it and the names are as they were
abbrev pub Stops : {B : Type 0} → Next B → B → Answer → Type 0
Stops next body a = next body names a ≡ (call.Return, body, names)

-- the next call, whatever becomes of the body
abbrev pub Calls : {B : Type 0} → Next B → B → Answer → Call → Type 0
Calls next body a c = (next body names a).0 ≡ c

-- a value
abbrev pub value : ℕ → Answer
value n = answer.Value (pos n)

-- a letter from thread 1
abbrev pub letter : List ℕ → Answer
letter text = answer.Letter 1 text 240

-- a procedure at its third statement, with the places after so many handlers
abbrev pub frame : List ℕ → Frame
frame handlers = record { number = 0; place = 2; handlers = handlers }

-- a thread in these procedures, the innermost first, whose last call was that of a statement; its script has one
-- procedure
abbrev pub scripted : Stmt → Frame → List Frame → ScriptBody
scripted last top below = record (script_opening (pod 1 (named (codes "main" ∷ []) [] [] []) (procedure 0 [] ∷ [])) 0) {
  top = top;
  below = below;
  last = Some last;
}

-- a session of event 3 and agent 2, whose last call was this
abbrev pub session : SessionPlace → SessionBody
session place = record { event = 3; store = 0; agent = 2; place = place }

-- a store without tables, which replies to thread 1
abbrev pub store : StorePlace → StoreBody
store place = record { tables = []; client = 1; place = place }

-- a table with the keys `k0` to `k99`, each of the value `v`
abbrev pub hundred : Table
hundred = map (λ n. (codes "k" ++ decimal n, value_reply (codes "v"))) (numbers_to 100)
