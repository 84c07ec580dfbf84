-- What the clients are told: each accepted reply to an agent, with the client whose line that agent holds.
use Rattle.lwp_live.specs.declared.notes.AgentOf.{AgentOf}
use Rattle.lwp_live.specs.declared.notes.Reply.{Reply}
use Rattle.lwp_types.specs.declared.call.Call.{Call}
use Rattle.lwp_types.specs.declared.call.Call.TheVariants as call
use Rattle.lwp_serve.specs.Answers.Replies.{agent_event, call_in}
use Rattle.pod_runner.specs.Session as Sessions
use Rattle.pod_runner.specs.declared.session.Made.{Made}
use Rattle.pod_runner.specs.declared.session.Took.{Took}
use Rattle.trace_text.specs.Lines.{with_space}
use Rattle.std.specs.List.{flat_map, fold}
use Rattle.std.specs.Prelude.{List, None, Option, Some, [], decimal, if◌then◌else◌, ℕ, ◌++◌, ◌==◌, ◌∷◌}

-- ---- agents, and whose line they hold

-- the event of an agent; the newest agent stands first
abbrev pub event_in : List AgentOf → ℕ → Option ℕ
event_in [] t = None
event_in (a ∷ agents) t = if a.number == t then Some a.event else event_in agents t

-- the client whose line of an event was taken last, where the newest take stands first. As an agent is given a line only
-- while no agent of its event holds one, that is the line that each of them holds.
abbrev pub last_client : List Took → ℕ → Option ℕ
last_client [] e = None
last_client (took ∷ takes) e = if took.event == e then Some took.line.client else last_client takes e

-- the client whose line an agent of this event holds
abbrev pub holder_of : List Took → Option ℕ → Option ℕ
holder_of takes None = None
holder_of takes (Some e) = last_client takes e

-- the agents and the takes so far, the newest first
pub record Known : Type 0 where
  pub agents : List AgentOf
  pub takes : List Took

abbrev pub nothing_known : Known
nothing_known = record { agents = []; takes = [] }

-- the agents after a call that asked for one of this event and was answered with this thread, if it did and was
abbrev pub agents_with : Option ℕ → Option ℕ → List AgentOf → List AgentOf
agents_with (Some e) (Some t) agents = record { number = t; event = e } ∷ agents
agents_with (Some e) None agents = agents
agents_with None t agents = agents

-- what is known after a call, or after a step without one
abbrev pub known_after_call : Known → Option Made → Known
known_after_call known None = known
known_after_call known (Some made) = record known { agents = agents_with (agent_event made.call) made.thread known.agents }

-- a line was taken, if one was
abbrev pub with_took : Known → Option Took → Known
with_took known None = known
with_took known (Some took) = record known { takes = took ∷ known.takes }

-- what is known after a step: a take, or else a call
abbrev pub known_after : Known → Sessions.Made → Known
known_after known step = known_after_call (with_took known step.take) (call_in step.take step.effects)

-- ---- replies

-- a reply with this text, if there is a client
abbrev pub reply_to : Option ℕ → List ℕ → List Reply
reply_to None text = []
reply_to (Some c) text = record { client = c; text = text } ∷ []

-- what a call tells a client: a reply to an agent tells the client whose line that holds
abbrev pub reply_of : Known → Call → List Reply
reply_of known (call.Reply t text) = reply_to (holder_of known.takes (event_in known.agents t)) text
reply_of known _ = []

-- the same, if the call was accepted, which is to say answered 0
abbrev pub reply_in : Known → Option Made → List Reply
reply_in known None = []
reply_in known (Some made) = if made.zero then reply_of known made.call else []

-- what a step tells: in one in which a line is taken nobody calls
abbrev pub reply_by : Known → Sessions.Made → List Reply
reply_by known step = reply_in known (call_in step.take step.effects)

-- what is known, and what was told so far
pub record Telling : Type 0 where
  pub known : Known
  pub replies : List Reply

-- one step more
abbrev pub after_step : Telling → Sessions.Made → Telling
after_step t step = record { known = known_after t.known step; replies = t.replies ++ reply_by t.known step }

abbrev pub nothing_told : Telling
nothing_told = record { known = nothing_known; replies = [] }

-- behind these steps
unfoldable pub told_in : List Sessions.Made → Telling
told_in steps = fold after_step nothing_told steps

-- the answers of a session: what its steps tell
abbrev pub replies_in : List Sessions.Made → List Reply
replies_in steps = (told_in steps).replies

-- ---- their text

-- an answer on a line of its own: the client, and the text behind a space, unless it is empty
abbrev pub reply_line : Reply → List ℕ
reply_line r = decimal r.client ++ (with_space r.text ++ 10 ∷ [])

-- all of them
abbrev pub reply_lines : List Reply → List ℕ
reply_lines replies = flat_map reply_line replies

-- what is told in these steps, as bytes
abbrev pub answers_in : List Sessions.Made → List ℕ
answers_in steps = reply_lines (replies_in steps)
