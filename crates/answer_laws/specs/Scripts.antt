-- One client of a script that bytes spell, whatever its session comes to: nothing is asked of priorities, of births, or of the
-- lengths of lines, since the bytes tell of these.
use Rattle.answer_laws.specs.Births.{begins_in}
use Rattle.answer_laws.specs.Clients.{IsAnsweredInTurn, all_sends_to}
use Rattle.answer_laws.specs.Lengths.{is_short}
use Rattle.answer_laws.specs.Served.{steps_of}
use Rattle.answer_laws.specs.Written.{IsFirstWritten, replies_are_of}
use Rattle.event_gate.specs.History.{lines_of}
use Rattle.line_server.specs.Sessions.{session_opening}
use Rattle.line_server.specs.Stores.{store_opening}
use Rattle.lwp_serve.specs.Answers.Replies.{event_of, known_after_steps, replies_in}
use Rattle.lwp_types.specs.State.{is_thread}
use Rattle.lwp_types.specs.declared.call.Line.{Line}
use Rattle.pod_runner.specs.Session.{Session}
use Rattle.pod_runner.specs.declared.session.Took.{Took}
use Rattle.script_body.specs.Bodies.{bodies_of}
use Rattle.script_body.specs.declared.thread_body.ThreadBody.{ThreadBody}
use Rattle.script_body.specs.declared.thread_body.ThreadBody.TheVariants.{Serving, Storing}
use Rattle.script_session.specs.SoFar.{AreDue, IsHistory, session_at}
use Rattle.script_text.specs.Grammar.{Spells}
use Rattle.script_text.specs.Script.{lines_posted}
use Rattle.script_text.specs.declared.script.Script.{Script}
use Rattle.std.specs.List.{AllByRecursion}
use Rattle.std.specs.Prelude.{IsTrue, List, Some, [], false, slice_get, true, ℕ, ◌<◌, ◌==◌, ◌^◌, ◌≡◌, ◌∷◌}

-- the line has room in a letter
abbrev pub IsShortLine : Line → Type 0
IsShortLine line = IsTrue (is_short line.text)

-- of a script that bytes spell, each line that a client posts has room in a letter
abbrev pub SpeltLinesAreShort : Type 0
SpeltLinesAreShort = (text : List ℕ) (script : Script) → Spells text script
    → AllByRecursion IsShortLine (lines_posted script)

-- so has each line that is taken, in a session whose takes are a history of the clients
abbrev pub TakenLinesAreShort : Type 0
TakenLinesAreShort = (text : List ℕ) (script : Script) → Spells text script
    → (takes : List Took) (left : List Line) → IsHistory script takes left
    → AllByRecursion (λ (took : Took). IsShortLine took.line) takes

-- fewer threads and agents are born in it than there are numbers of 32 bits
abbrev pub SpeltBirthsAreFew : Type 0
SpeltBirthsAreFew = (text : List ℕ) (script : Script) → Spells text script
    → (takes : List Took) (n : ℕ) → AreDue script takes n
    → (session_at script takes n).live.pod.state.births < 2 ^ 32

-- at its end the store lives, and whatever s has sent went to it
pub record IsServed (s k : ℕ) (end : Session ThreadBody) : Type 0 where
  pub lives : is_thread end.live.pod.state k ≡ true
  pub sends : all_sends_to s k (steps_of end.steps) ≡ true

-- In every session of a script that bytes spell: something holds of a client's session and a store, if that lives in the
-- end and all that the session has sent went to it.
abbrev pub HoldsWhereSpelt : (Script → ℕ → Session ThreadBody → Type 0) → Type 0
HoldsWhereSpelt Says = (text : List ℕ) (script : Script) → Spells text script
    → (takes : List Took) (n : ℕ) (left : List Line) → AreDue script takes n → IsHistory script takes left
    → (s k in_s in_k event place : ℕ) → (s == k) ≡ false
    → begins_in s (session_at script takes n).steps ≡ Some in_s
    → slice_get (bodies_of script) in_s ≡ Some (Serving (session_opening event place))
    → begins_in k (session_at script takes n).steps ≡ Some in_k
    → slice_get (bodies_of script) in_k ≡ Some (Storing store_opening)
    → IsServed s k (session_at script takes n) → Says script s (session_at script takes n)

-- the replies of the session to its agent that were accepted are a first part of the answers to the lines delivered to that
abbrev pub SpeltClientsAreAnswered : Type 0
SpeltClientsAreAnswered = HoldsWhereSpelt (λ script s end. (a : ℕ) → IsAnsweredInTurn s a (steps_of end.steps))

-- and what is written of a client whose event has had one agent, where of the accepted replies to that all are of the
-- session, is a first part of the answers to the lines delivered to that agent
abbrev pub SpeltClientsAreWritten : Type 0
SpeltClientsAreWritten = HoldsWhereSpelt (λ script s end. (client e a : ℕ) → event_of script client ≡ Some e
    → (known_after_steps (Some e) end.steps).agents ≡ a ∷ []
    → replies_are_of s a end.steps ≡ true
    → IsFirstWritten a end.steps (replies_in (event_of script client) end.steps))
