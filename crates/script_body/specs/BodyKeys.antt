-- The threads of a script as numbers.
use Rattle.keys.specs.Numbers.{counted, list_numbers, turned}
use Rattle.line_server.specs.Keys.{session_numbers, store_numbers}
use Rattle.script_body.specs.Frame.{Frame}
use Rattle.script_body.specs.ScriptBody.{ScriptBody, is_return}
use Rattle.script_body.specs.declared.thread_body.ThreadBody.{ThreadBody}
use Rattle.script_body.specs.declared.thread_body.ThreadBody.TheVariants.{Scripted, Serving, Storing}
use Rattle.script_text.specs.Script.{stmts_at}
use Rattle.script_text.specs.declared.script.Script.{Script}
use Rattle.script_text.specs.declared.script.Stmt.{Stmt}
use Rattle.std.specs.Prelude.{List, None, Option, Some, [], false, if◌then◌else◌, slice_get, ℕ, ◌++◌, ◌-◌, ◌∷◌, ◌≡◌}

-- a procedure that was begun: its number, the place of its next statement, and the places after its handlers
abbrev pub frame_numbers : Frame → List ℕ
frame_numbers frame = frame.number ∷ frame.place ∷ counted frame.handlers

-- of the statement of its last call: whether there is one, and whether it is a return
abbrev pub last_number : Option Stmt → ℕ
last_number None = 0
last_number (Some s) = if is_return s then 1 else 2

-- a thread that runs a procedure; its script is the same in all that a key tells apart, and its last statement, unless it is a return,
-- stands before the place of its next one
abbrev pub script_numbers : ScriptBody → List ℕ
script_numbers body = frame_numbers body.top ++ list_numbers frame_numbers body.below ++ turned body.sender ∷ last_number body.last ∷ []

-- any thread of a script
abbrev pub body_numbers : ThreadBody → List ℕ
body_numbers (Scripted body) = 0 ∷ script_numbers body
body_numbers (Serving body) = 1 ∷ session_numbers body
body_numbers (Storing body) = 2 ∷ store_numbers body

-- ---- the threads of one script

-- the statement of the last call, if it isn't a return, stands before the next place of this procedure
abbrev pub StandsBefore : Script → Frame → Option Stmt → Type 0
StandsBefore script frame None = Unit {0}
StandsBefore script frame (Some s) = is_return s ≡ false → slice_get (stmts_at script frame.number) (frame.place - 1) ≡ Some s

-- a thread of this script, as it stands between two polls
pub record IsScripted (script : Script) (body : ScriptBody) : Type 0 where
  pub of : body.script ≡ script
  pub last : StandsBefore script body.top body.last

-- any thread of this script
abbrev pub IsBodyOf : Script → ThreadBody → Type 0
IsBodyOf script (Scripted body) = IsScripted script body
IsBodyOf script (Serving body) = Unit {0}
IsBodyOf script (Storing body) = Unit {0}
