-- What one client is told: the texts of the replies to the agents of its event, as they were accepted.
use Rattle.lwp_types.specs.declared.call.Call.{Call}
use Rattle.lwp_types.specs.declared.call.Call.TheVariants as call
use Rattle.lwp_types.specs.declared.call.Effect.{Effect}
use Rattle.pod_runner.specs.Calls.{call_of_effects}
use Rattle.pod_runner.specs.Session as Sessions
use Rattle.pod_runner.specs.declared.session.Made.{Made}
use Rattle.pod_runner.specs.declared.session.Took.{Took}
use Rattle.lwp_serve.specs.Plan.Planned.{plan_of}
use Rattle.script_session.specs.SoFar.{session_at}
use Rattle.script_text.specs.declared.script.Script.{Script}
use Rattle.pod_runner.specs.Run.{but_last}
use Rattle.std.specs.List.{fold, list_any}
use Rattle.std.specs.Prelude.{Bool, List, None, Option, Some, [], false, if◌then◌else◌, nat_eq, slice_get, ℕ, ◌++◌, ◌==◌, ◌∷◌}

-- ---- the agents of an event

-- the event that a call asks an agent of
abbrev pub agent_event : Call → Option ℕ
agent_event (call.Agent e) = Some e
agent_event _ = None

-- it is this event; a client that isn't declared has none
abbrev pub is_event : Option ℕ → Option ℕ → Bool
is_event None asked = false
is_event (Some e) None = false
is_event (Some e) (Some asked) = asked == e

-- the agent of the event that a call has made, if it has
abbrev pub agent_born : Option ℕ → Made → Option ℕ
agent_born event made = if is_event event (agent_event made.call) then made.thread else None

-- the agents, and one more, if there is one
abbrev pub with_agent : List ℕ → Option ℕ → List ℕ
with_agent agents None = agents
with_agent agents (Some a) = agents ++ a ∷ []

-- the agents of the event after a call; a step without a call makes none
abbrev pub agents_after : Option ℕ → List ℕ → Option Made → List ℕ
agents_after event agents None = agents
agents_after event agents (Some made) = with_agent agents (agent_born event made)

-- ---- the replies to them

-- the thread is one of these
abbrev pub is_among : List ℕ → ℕ → Bool
is_among agents t = list_any (λ a. nat_eq a t) agents

-- what a reply to one of these agents says, on a line of its own; of any other call nothing
abbrev pub reply_line : List ℕ → Call → List ℕ
reply_line agents (call.Reply t text) = if is_among agents t then text ++ 10 ∷ [] else []
reply_line agents _ = []

-- what is told of a call: a reply counts if it was accepted, which is to say answered 0
abbrev pub texts_told : List ℕ → Option Made → List ℕ
texts_told agents None = []
texts_told agents (Some made) = if made.zero then reply_line agents made.call else []

-- ---- after some steps

-- the agents of the event, as they were born, and what its client was told
pub record Known : Type 0 where
  pub agents : List ℕ
  pub replies : List ℕ

abbrev pub nothing_known : Known
nothing_known = record { agents = []; replies = [] }

-- what is known after one call more
abbrev pub known_after_call : Option ℕ → Known → Option Made → Known
known_after_call event known made = record {
  agents = agents_after event known.agents made;
  replies = known.replies ++ texts_told known.agents made;
}

-- the call of a step, if it is one: in a step in which a line was taken nobody calls. The result of an exit procedure
-- is no call.
abbrev pub call_in : Option Took → List Effect → Option Made
call_in None effects = call_of_effects effects
call_in (Some took) effects = None

-- what is known after one step more
abbrev pub known_after_step : Option ℕ → Known → Sessions.Made → Known
known_after_step event known step = known_after_call event known (call_in step.take step.effects)

-- what is known after these steps
abbrev pub known_after_steps : Option ℕ → List Sessions.Made → Known
known_after_steps event steps = fold (known_after_step event) nothing_known steps

-- what the client of this event was told in these steps
unfoldable pub replies_in : Option ℕ → List Sessions.Made → List ℕ
replies_in event steps = (known_after_steps event steps).replies

-- ---- of a script

-- the event of a client, if it is declared
abbrev pub event_of : Script → ℕ → Option ℕ
event_of script client = slice_get script.clients client

-- what the client is told in the session with all lines in place
abbrev pub answers_of : ℕ → Script → ℕ → List ℕ
answers_of client script turns = replies_in (event_of script client) (plan_of script turns).session.steps

-- what it is told in the session with these takes, as far as so many calls
abbrev pub answers_after : ℕ → Script → List Took → ℕ → List ℕ
answers_after client script takes n = replies_in (event_of script client) (session_at script takes n).steps

-- what it was told in all these steps but the last
abbrev pub answers_before : ℕ → Script → List Took → ℕ → List ℕ
answers_before client script takes n = replies_in (event_of script client) (but_last (session_at script takes n).steps)
