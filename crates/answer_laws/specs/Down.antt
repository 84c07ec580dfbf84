-- What a client's session says once it is told that its store isn't there.
use Rattle.answer_laws.specs.Served.{CanGoOn, IsPolledWith, LineServer, session_from}
use Rattle.answer_laws.specs.Sights.{Sight, sight}
use Rattle.line_server.specs.Sessions.{SessionBody, session_next}
use Rattle.line_server.specs.declared.session.SessionPlace.TheVariants as at
use Rattle.lwp_types.specs.Choice.{choice}
use Rattle.lwp_types.specs.Lawful.{Lawful}
use Rattle.lwp_types.specs.Names.{names_for_poll}
use Rattle.lwp_types.specs.State.{is_id, passes}
use Rattle.lwp_types.specs.Unblock.{nonexist}
use Rattle.lwp_types.specs.declared.call.Answer.{Answer}
use Rattle.lwp_types.specs.declared.call.Answer.TheVariants as answer
use Rattle.lwp_types.specs.declared.call.Call.{Call}
use Rattle.lwp_types.specs.declared.call.Call.TheVariants as call
use Rattle.lwp_types.specs.declared.call.LwpErr.{LwpErr}
use Rattle.lwp_types.specs.declared.rows.Block.TheVariants as block
use Rattle.lwp_types.specs.declared.rows.Mark.TheVariants as mark
use Rattle.pod_events.specs.Step.{event_step}
use Rattle.pod_runner.specs.Session.{Live, Session, Setting, call_step, move, take_step}
use Rattle.pod_runner.specs.declared.session.Took.{Took}
use Rattle.std.specs.Prelude.{List, MatchBool, None, Option, Some, [], codes, false, ℕ, ◌==◌, ◌∷◌, ◌≡◌}

-- it waits for nothing, has the frame that it begins with, and has no letter that isn't replied to
abbrev pub at_rest : Sight
at_rest = record { waits = Some block.Not; marks = mark.Frame ∷ []; letters = [] }

-- By these moves s goes on as if its next call, if it makes one, were c: the first step in which s has the turn has the
-- effects of c.
abbrev pub CallsNext : {B : Type 0} → Setting B → ℕ → Call → Session B → List (Option Took) → Type 0
CallsNext setting s c session [] = Unit {0}
CallsNext setting s c session (Some took ∷ moves) = CallsNext setting s c (take_step setting took session) moves
CallsNext setting s c session (None ∷ moves) = MatchBool (passes (λ t. t == s) (choice session.live.pod.state))
    ((move setting.next setting.bodies session.live).effects ≡ (event_step session.live.pod c).effects)
    (CallsNext setting s c (call_step setting session) moves)

-- A client's session has sent a line to its store and is refused. Whatever the others do and whenever lines are taken
-- from there on, its next call, if it makes one, tells its client `down`.
abbrev pub RefusedSessionsSayDown : Type 0 → Type 0
RefusedSessionsSayDown B = (setting : Setting B) (server : LineServer setting.next) (s : ℕ) (body : SessionBody) (why : LwpErr)
    → body.place ≡ at.Send → (live : Live B) → Lawful live.pod.state None
    → IsPolledWith s live.rows (server.serving body) (answer.Refused why) → sight live.pod.state s ≡ at_rest
    → (moves : List (Option Took)) → CanGoOn setting moves (session_from live)
    → CallsNext setting s (call.Reply body.agent (codes "down")) (session_from live) moves

-- after a call of the session s, it is polled next with this body and that its store isn't there, and waits for nothing
pub record IsRefusedAt {B : Type 0} (s : ℕ) (body : B) (live : Live B) : Type 0 where
  pub row : IsPolledWith s live.rows body nonexist
  pub rests : sight live.pod.state s ≡ at_rest

-- It has the turn, no trap is to be raised, and its call is a letter to a store k that isn't there: it is refused at once.
abbrev pub SendsToTheGoneAreRefused : Type 0 → Type 0
SendsToTheGoneAreRefused B = (setting : Setting B) (server : LineServer setting.next) (s k : ℕ) (body : SessionBody) (heard : Answer)
    → (live : Live B) → Lawful live.pod.state None → live.pod.pending ≡ None → choice live.pod.state ≡ Some s
    → is_id live.pod.state k ≡ false → IsPolledWith s live.rows (server.serving body) heard → sight live.pod.state s ≡ at_rest
    → (room : ℕ) (text : List ℕ) → (session_next body (names_for_poll s live.names) heard).0 ≡ call.Send k room text
    → CanGoOn setting (None ∷ []) (session_from live)
    → IsRefusedAt s (server.serving (session_next body (names_for_poll s live.names) heard).1) (call_step setting (session_from live)).live
