-- The meaning of a script's procedures: what a thread that runs one calls next.
use Rattle.lwp_types.specs.declared.call.Answer.{Answer}
use Rattle.lwp_types.specs.Names.{Names, null_id}
use Rattle.lwp_types.specs.Poll.{Next, Polled, is_refused, stop_poll}
use Rattle.script_body.specs.Calls.{call_of}
use Rattle.script_body.specs.Frame.{Frame, opening_frame, with_caught, with_handler, without_handler}
use Rattle.script_body.specs.Naming.{after_name}
use Rattle.script_body.specs.Walk.{At, next_stmt}
use Rattle.script_text.specs.Script.{proc_number, stmts_at}
use Rattle.script_text.specs.declared.script.Script.{Script}
use Rattle.script_text.specs.declared.script.Stmt.{Stmt}
use Rattle.std.specs.Prelude.{Bool, List, None, Option, Some, [], drop, false, if◌then◌else◌, length, nat_lt}
use Rattle.std.specs.Prelude.{slice_get, slice_index_or, take, true, ℕ, ◌++◌, ◌+◌, ◌-◌, ◌==◌, ◌||◌, ◌∷◌}
use Rattle.lwp_types.specs.declared.call.Answer.TheVariants as answer
use Rattle.script_text.specs.declared.script.Stmt.TheVariants as stmt

-- a thread that runs a procedure of a script
pub record ScriptBody : Type 0 where
  pub script : Script
  -- the procedure that it is in
  pub top : Frame
  -- those that it will return to, the innermost last
  pub below : List Frame
  -- who sent the letter that it received last
  pub sender : ℕ
  -- the statement of its last call, if it has made one
  pub last : Option Stmt

-- a thread at the start of a procedure
abbrev pub script_opening : Script → ℕ → ScriptBody
script_opening script number = record {
  script = script;
  top = opening_frame number;
  below = [];
  sender = null_id;
  last = None;
}

-- ---- catches

-- the frame that has so many below it; the present one where no other has
abbrev pub frame_above : ScriptBody → ℕ → Frame
frame_above body depth = slice_index_or body.below depth body.top

-- it is the present one again, and goes on at this place, with so many of its handlers
abbrev pub back_at : ScriptBody → ℕ → ℕ → ℕ → ScriptBody
back_at body depth mark place = record body {
  top = with_caught mark place (frame_above body depth);
  below = take depth body.below;
}

-- it goes on at the place of its handler of that number, if there is one
abbrev pub caught_at : ScriptBody → ℕ → ℕ → Option ℕ → Option ScriptBody
caught_at body depth mark None = None
caught_at body depth mark (Some place) = Some (back_at body depth mark place)

-- a catch leaves so many frames, and goes on after the handler of this number in the innermost
abbrev pub after_take_caught : ScriptBody → ℕ → ℕ → Option ScriptBody
after_take_caught body depth mark = if (depth == 0) || nat_lt (length body.below + 1) depth then None
    else caught_at body (depth - 1) mark (slice_get (frame_above body (depth - 1)).handlers mark)

-- ---- other answers

-- the thread, with its present procedure standing so
abbrev pub with_top : ScriptBody → Frame → ScriptBody
with_top body frame = record body { top = frame }

-- the last handler of the present procedure was removed, if it has one
abbrev pub after_unhandle : ScriptBody → Option ScriptBody
after_unhandle body = if length body.top.handlers == 0 then None else Some (with_top body (without_handler body.top))

-- a procedure was called: it is at its start
abbrev pub with_frame : ScriptBody → ℕ → ScriptBody
with_frame body number = record body { top = opening_frame number; below = body.below ++ body.top ∷ [] }

-- the present procedure has returned, if there is one to return to
abbrev pub after_return : ScriptBody → Option ScriptBody
after_return body = if length body.below == 0 then None
    else Some (record body {
      top = frame_above body (length body.below - 1);
      below = take (length body.below - 1) body.below;
    })

-- the sender is known, if a letter was received
abbrev pub with_sender_by : Answer → ScriptBody → ScriptBody
with_sender_by (answer.Letter from text room) body = record body { sender = from }
with_sender_by _ body = body

-- an answer that is neither a catch nor a refusal, by the statement of the last call
abbrev pub after_take_by : ScriptBody → Answer → Stmt → Option ScriptBody
after_take_by body a (stmt.Recv from mode) = Some (with_sender_by a body)
after_take_by body a (stmt.Handle pat func arg) = Some (with_top body (with_handler body.top))
after_take_by body a stmt.Unhandle = after_unhandle body
after_take_by body a (stmt.CallProc name) = Some (with_frame body (proc_number body.script name))
after_take_by body a stmt.Return = after_return body
after_take_by body a _ = Some body

-- the statement is a return
abbrev pub is_return : Stmt → Bool
is_return stmt.Return = true
is_return _ = false

-- a refusal changes nothing; a return isn't refused, but then, too, its frame has gone
abbrev pub after_take_refused : ScriptBody → Stmt → Option ScriptBody
after_take_refused body s = if is_return s then after_return body else Some body

-- an answer that is no catch; before the first call it changes nothing
abbrev pub after_take_plain : ScriptBody → Answer → Option Stmt → Option ScriptBody
after_take_plain body a None = Some body
after_take_plain body a (Some s) = if is_refused a then after_take_refused body s else after_take_by body a s

-- the answer to the last call is taken, if it can be; a catch is the same after every statement
abbrev pub after_take : ScriptBody → Answer → Option ScriptBody
after_take body (answer.Caught depth mark p) = after_take_caught body depth mark
after_take body a = after_take_plain body a body.last

-- ---- the next call

-- the next statement of a thread that makes a call; past the last one it returns
abbrev pub stmt_after : Answer → ScriptBody → At
stmt_after a body =
    next_stmt a (stmts_at body.script body.top.number) false body.top.place
    (drop body.top.place (stmts_at body.script body.top.number))

-- the thread goes on after a statement
abbrev pub behind : ScriptBody → At → ScriptBody
behind body at = record body { top = record body.top { place = at.place }; last = Some at.stmt }

-- the call of that statement; the thread goes on after it
abbrev pub poll_of_call : ScriptBody → Names → At → Polled ScriptBody
poll_of_call body names at = (call_of body.script body.sender names at.stmt, behind body at, names)

-- to an answer that can't be taken it returns
abbrev pub poll_of_answer : ScriptBody → Names → Answer → Option ScriptBody → Polled ScriptBody
poll_of_answer body names a None = stop_poll body names
poll_of_answer body names a (Some now) = poll_of_call now (after_name a body.last names) (stmt_after a now)

-- a thread takes the answer, and goes on to the next statement that makes a call
unfoldable pub script_next : Next ScriptBody
script_next body names a = poll_of_answer body names a (after_take body a)
