-- Sessions of pods in which a store and a client's session are among the threads.
use Rattle.pod_runner.specs.declared.session.Row.{Row}
use Rattle.answer_laws.specs.Clients.{IsAnsweredInTurn, Step, all_sends_to, texts_delivered}
use Rattle.answer_laws.specs.Lengths.{is_short}
use Rattle.answer_laws.specs.Sights.{sight}
use Rattle.line_server.specs.Sessions.{SessionBody, session_next, session_opening}
use Rattle.line_server.specs.Stores.{StoreBody, store_next, store_opening}
use Rattle.lwp_types.specs.Lawful.{Lawful}
use Rattle.lwp_types.specs.Names.{Names, null_id}
use Rattle.lwp_types.specs.Poll.{Next}
use Rattle.lwp_types.specs.State.{is_thread}
use Rattle.lwp_types.specs.Unblock.{zero_answer}
use Rattle.lwp_types.specs.declared.call.Answer.{Answer}
use Rattle.pod_runner.specs.Due.{IsDefined, is_call_due, is_take_due}
use Rattle.pod_runner.specs.Play.{play}
use Rattle.pod_runner.specs.Session.{Live, Made, Session, Setting, call_step, opening_session, row_of, take_step}
use Rattle.pod_runner.specs.declared.session.Took.{Took}
use Rattle.std.specs.List.{list_all}
use Rattle.std.specs.Prelude.{Bool, IsTrue, List, None, Option, Some, [], false, map, option_map, true, ℕ, ◌++◌, ◌<◌, ◌==◌, ◌∷◌, ◌≡◌, ◌≤◌}
use Rattle.lwp_types.specs.declared.rows.Block.TheVariants as block
use Rattle.lwp_types.specs.declared.rows.Mark.TheVariants as mark

-- among the bodies are sessions and stores, and these mean what the built-in ones do
pub record LineServer {B : Type 0} (next : Next B) : Type 0 where
  pub serving : SessionBody → B
  pub storing : StoreBody → B
  pub serves : (body : SessionBody) (names : Names) (x : Answer)
      → next (serving body) names x
      ≡ ((session_next body names x).0, serving (session_next body names x).1, (session_next body names x).2)
  pub stores : (body : StoreBody) (names : Names) (x : Answer)
      → next (storing body) names x
      ≡ ((store_next body names x).0, storing (store_next body names x).1, (store_next body names x).2)
  -- no two of them are one
  pub one_session : (b c : SessionBody) → serving b ≡ serving c → b ≡ c
  pub one_store : (b c : StoreBody) → storing b ≡ storing c → b ≡ c

-- a session one move on: a take, or else a call
abbrev pub after_move : {B : Type 0} → Setting B → Session B → Option Took → Session B
after_move setting s None = call_step setting s
after_move setting s (Some took) = take_step setting took s

-- the move may be made
abbrev pub is_move_due : {B : Type 0} → Session B → Option Took → Bool
is_move_due s None = is_call_due s
is_move_due s (Some took) = is_take_due took s

-- the session after these moves, the first one first
abbrev pub after_moves : {B : Type 0} → Setting B → List (Option Took) → Session B → Session B
after_moves setting [] s = s
after_moves setting (move ∷ moves) s = after_moves setting moves (after_move setting s move)

-- each of them could be made when it was
abbrev pub CanGoOn : {B : Type 0} → Setting B → List (Option Took) → Session B → Type 0
CanGoOn setting [] s = Unit {0}
CanGoOn setting (move ∷ moves) s = IsTrue (is_move_due s move) × CanGoOn setting moves (after_move setting s move)

-- what the steps of a session tell of a client: the text of the line that was taken, if one was, and the effects
abbrev pub step_of : Made → Step
step_of made = record { text = option_map (λ took. took.line.text) made.take; effects = made.effects }

abbrev pub steps_of : List Made → List Step
steps_of steps = map step_of steps

-- ---- where they begin

-- what a thread is polled with next: its body, and its answer
abbrev pub polled_with : {B : Type 0} → Row B → B × Answer
polled_with row = (row.body, row.answer)

-- the thread is polled with these next
abbrev pub IsPolledWith : {B : Type 0} → ℕ → List (Row B) → B → Answer → Type 0
IsPolledWith u rows body heard = option_map polled_with (row_of u rows) ≡ Some (body, heard)

-- the thread has this body and was not polled yet; it waits for nothing, has the frame that it begins with, and has
-- sent nothing
pub record Begins {B : Type 0} (u : ℕ) (body : B) (live : Live B) : Type 0 where
  pub row : IsPolledWith u live.rows body zero_answer
  pub thread : sight live.pod.state u ≡ record { waits = Some block.Not; marks = mark.Frame ∷ []; letters = [] }

-- a session that begins here, with no steps so far
abbrev pub session_from : {B : Type 0} → Live B → Session B
session_from live = record { live = live; steps = [] }

-- ---- what is asked of a session up to its end

-- the store lives, all that s has sent went to it, and fewer were born than there are numbers
pub record Serves {B : Type 0} (s k : ℕ) (end : Session B) : Type 0 where
  pub lives : is_thread end.live.pod.state k ≡ true
  pub sends : all_sends_to s k (steps_of end.steps) ≡ true
  pub few : end.live.pod.state.births < null_id

-- the texts for each agent have room in a letter
abbrev pub TextsAreShort : {B : Type 0} → Session B → Type 0
TextsAreShort end = (a : ℕ) → list_all is_short (texts_delivered a (steps_of end.steps)) ≡ true

-- Where a store and a client's session begin, whatever the others do and whenever lines are taken from there on: the
-- accepted replies of the session to its agent are a first part of the answers to the lines delivered to that.
abbrev pub ClientsAreAnsweredInTurn : Type 0 → Type 0
ClientsAreAnsweredInTurn B = (setting : Setting B) (server : LineServer setting.next) (s k event place : ℕ)
    → (s == k) ≡ false
    → (live : Live B) → Lawful live.pod.state None → Begins k (server.storing store_opening) live
    → Begins s (server.serving (session_opening event place)) live
    → (moves : List (Option Took)) → CanGoOn setting moves (session_from live)
    → Serves s k (after_moves setting moves (session_from live))
    → TextsAreShort (after_moves setting moves (session_from live))
    → (a : ℕ) → IsAnsweredInTurn s a (steps_of (after_moves setting moves (session_from live)).steps)

-- So it is where the session begins by a move after some others since the store began, before which it wasn't born, and
-- whichever threads the store has served till then.
abbrev pub LaterClientsAreAnsweredInTurn : Type 0 → Type 0
LaterClientsAreAnsweredInTurn B = (setting : Setting B) (server : LineServer setting.next) (s k event place : ℕ)
    → (first : Live B) → Lawful first.pod.state None → Begins k (server.storing store_opening) first
    → (moves : List (Option Took)) (birth : Option Took)
    → CanGoOn setting (moves ++ birth ∷ []) (session_from first)
    → (after_moves setting moves (session_from first)).live.pod.state.births ≤ s
    → (live : Live B) → live ≡ (after_moves setting (moves ++ birth ∷ []) (session_from first)).live
    → Begins s (server.serving (session_opening event place)) live
    → (later : List (Option Took)) → CanGoOn setting later (session_from live)
    → Serves s k (after_moves setting later (session_from live))
    → TextsAreShort (after_moves setting later (session_from live))
    → (a : ℕ) → IsAnsweredInTurn s a (steps_of (after_moves setting later (session_from live)).steps)

-- ---- whole sessions

-- the line that was taken, if one was, has room in a letter
abbrev pub line_is_short : Option Took → Bool
line_is_short None = true
line_is_short (Some took) = is_short took.line.text

-- At the opening of a session and from there on: the store begins after some moves, and the client's session after
-- some more, the last of which bears it; then the rest follows. Of all steps from the opening on: what the session's
-- client is told is a first part of the answers to its lines.
abbrev pub IsAnsweredInIt : {B : Type 0} → Setting B → (SessionBody → B) → (StoreBody → B) → Type 0
IsAnsweredInIt setting serving storing = 1 ≤ setting.params.maxpri → setting.params.maxpri ≤ 255 → (s k event place : ℕ)
    → (first moves : List (Option Took)) (birth : Option Took) (later : List (Option Took))
    → CanGoOn setting (first ++ (moves ++ birth ∷ later)) (opening_session setting)
    → Begins k (storing store_opening) (after_moves setting first (opening_session setting)).live
    → (after_moves setting (first ++ moves) (opening_session setting)).live.pod.state.births ≤ s
    → Begins s (serving (session_opening event place))
    (after_moves setting (first ++ (moves ++ birth ∷ [])) (opening_session setting)).live
    → Serves s k (after_moves setting (first ++ (moves ++ birth ∷ later)) (opening_session setting))
    → list_all line_is_short (first ++ (moves ++ birth ∷ later)) ≡ true
    → (a : ℕ)
    → IsAnsweredInTurn s a (steps_of (after_moves setting (first ++ (moves ++ birth ∷ later))
    (opening_session setting)).steps)

abbrev pub InWholeSessions : Type 0 → Type 0
InWholeSessions B = (setting : Setting B) (server : LineServer setting.next)
    → IsAnsweredInIt setting server.serving server.storing

-- some moves from the opening come to this session
pub record IsReached {B : Type 0} (setting : Setting B) (session : Session B) : Type 0 where
  pub moves : List (Option Took)
  pub can : CanGoOn setting moves (opening_session setting)
  pub is : session ≡ after_moves setting moves (opening_session setting)

-- Every session is reached so.
abbrev pub SessionsAreReached : Type 0 → Type 0
SessionsAreReached B = (setting : Setting B) (takes : List Took) (n : ℕ) → IsDefined setting takes n
    → IsReached setting (play setting takes n)
