-- A session and its store as they talk: the two built-in bodies alone, and of the pod no more than how it answers them.
use Rattle.line_server.specs.Sessions.{SessionBody, session_next, session_opening}
use Rattle.line_server.specs.Stores.{StoreBody, store_next, store_opening}
use Rattle.line_server.specs.Tables.{line_answers}
use Rattle.lwp_types.specs.Names.{Names}
use Rattle.lwp_types.specs.Poll.{Polled}
use Rattle.lwp_types.specs.Unblock.{nonexist, zero_answer}
use Rattle.lwp_types.specs.declared.call.Answer.{Answer}
use Rattle.lwp_types.specs.declared.call.Answer.TheVariants as answer
use Rattle.lwp_types.specs.declared.call.Call.{Call}
use Rattle.lwp_types.specs.declared.call.Call.TheVariants as call
use Rattle.lwp_types.specs.declared.call.LwpErr.{LwpErr}
use Rattle.lwp_types.specs.declared.call.LwpErr.TheVariants as error
use Rattle.std.specs.List.{fold}
use Rattle.std.specs.Prelude.{Bool, List, None, Option, Some, [], false, if◌then◌else◌, true, ℕ, ◌++◌, ◌==◌, ◌∷◌, ◌≡◌}

-- how a thread stands: it is polled next with this answer, or waits for a letter or a reply, or is over
pub data Stand : Type 0 where
  Hears : Answer → Stand
  AwaitsLetter : Stand
  AwaitsReply : Stand
  IsOver : Stand

-- the session's letter to the store: there is none, or it was sent, or the store has received it and not replied to it
pub data Mail : Type 0 where
  Nothing : Mail
  Sent : List ℕ → Mail
  Received : List ℕ → Mail

-- both of them, and what has passed between them and the client
pub record Talk : Type 0 where
  pub session : SessionBody
  -- how the session stands
  pub client : Stand
  pub store : StoreBody
  -- how the store stands
  pub keeper : Stand
  pub mail : Mail
  -- the session's agent is there, or can still be made
  pub agent_lives : Bool
  -- the texts that the session has received from its agent
  pub lines : List (List ℕ)
  -- the texts of its replies to the agent that were accepted
  pub told : List (List ℕ)

-- both at their start
abbrev pub opening_talk : ℕ → ℕ → Talk
opening_talk event store = record {
  session = session_opening event store;
  client = Hears zero_answer;
  store = store_opening;
  keeper = Hears zero_answer;
  mail = Nothing;
  agent_lives = true;
  lines = [];
  told = [];
}

-- ---- calls of the session

-- what a call is to the two: an agent is made, a letter is received, x is replied to, or the session's letter is sent;
-- any other ends its thread
pub data Deed : Type 0 where
  Opens : Deed
  Receives : Deed
  Replies : ℕ → List ℕ → Deed
  Sends : List ℕ → Deed
  Stops : Deed

abbrev pub deed_of : Call → Deed
deed_of (call.Agent e) = Opens
deed_of (call.Recv from mode) = Receives
deed_of (call.Reply to text) = Replies to text
deed_of (call.Send to room text) = Sends text
deed_of _ = Stops

-- its reply to the agent is accepted, as long as the agent is there
abbrev pub after_agent_reply : Talk → List ℕ → Talk
after_agent_reply talk text = if talk.agent_lives
    then record talk { told = talk.told ++ text ∷ []; client = Hears zero_answer }
    else record talk { client = Hears nonexist }

-- what its call comes to; all that it sends goes to the store
abbrev pub session_calls : ℕ → Talk → Deed → Talk
session_calls a talk Opens = record talk {
  client = Hears (if talk.agent_lives then answer.Thread a else answer.Refused error.NoRoom);
}
session_calls a talk Receives = record talk { client = if talk.agent_lives then AwaitsLetter else Hears nonexist }
session_calls a talk (Replies to text) = after_agent_reply talk text
session_calls a talk (Sends text) = record talk { mail = Sent text; client = AwaitsReply }
session_calls a talk Stops = record talk { client = IsOver }

-- the session was polled
abbrev pub after_session_poll : ℕ → Talk → Polled SessionBody → Talk
after_session_poll a talk reply = session_calls a (record talk { session = reply.1 }) (deed_of reply.0)

-- its turn, if it waits for nothing
abbrev pub session_turn : ℕ → Names → Talk → Stand → Talk
session_turn a names talk (Hears x) = after_session_poll a talk (session_next talk.session names x)
session_turn a names talk _ = talk

-- ---- calls of the store

-- a reply to the session goes to its letter, if the store has received that
abbrev pub after_session_reply : Talk → List ℕ → Mail → Talk
after_session_reply talk text (Received sent) = record talk {
  mail = Nothing;
  client = Hears (answer.Reply text);
  keeper = Hears zero_answer;
}
after_session_reply talk text _ = record talk { keeper = Hears (answer.Refused error.NoWait) }

-- how the store's reply to anybody else is answered: with 0, or refused
abbrev pub reply_answer : Option LwpErr → Answer
reply_answer None = zero_answer
reply_answer (Some e) = answer.Refused e

-- what its call comes to, where the session is s
abbrev pub store_calls : ℕ → Option LwpErr → Talk → Deed → Talk
store_calls s refusal talk Receives = record talk { keeper = AwaitsLetter }
store_calls s refusal talk (Replies to text) = if to == s then after_session_reply talk text talk.mail
    else record talk { keeper = Hears (reply_answer refusal) }
store_calls s refusal talk Opens = record talk { keeper = IsOver }
store_calls s refusal talk (Sends text) = record talk { keeper = IsOver }
store_calls s refusal talk Stops = record talk { keeper = IsOver }

-- the store was polled
abbrev pub after_store_poll : ℕ → Option LwpErr → Talk → Polled StoreBody → Talk
after_store_poll s refusal talk reply = store_calls s refusal (record talk { store = reply.1 }) (deed_of reply.0)

-- its turn, if it waits for nothing
abbrev pub store_turn : ℕ → Option LwpErr → Names → Talk → Stand → Talk
store_turn s refusal names talk (Hears x) = after_store_poll s refusal talk (store_next talk.store names x)
store_turn s refusal names talk _ = talk

-- ---- letters

-- the session receives a line of its client, if it waits for one and its agent is there
abbrev pub line_comes : ℕ → List ℕ → Talk → Stand → Talk
line_comes a text talk AwaitsLetter = if talk.agent_lives
    then record talk { client = Hears (answer.Letter a text 240); lines = talk.lines ++ text ∷ [] }
    else talk
line_comes a text talk _ = talk

-- the store, which waits for a letter, receives that of the session, if there is one
abbrev pub mail_comes : ℕ → Talk → Mail → Talk
mail_comes s talk (Sent text) = record talk { keeper = Hears (answer.Letter s text 240); mail = Received text }
mail_comes s talk _ = talk

-- the store receives the session's letter, if it waits for one
abbrev pub letter_comes : ℕ → Talk → Stand → Talk
letter_comes s talk AwaitsLetter = mail_comes s talk talk.mail
letter_comes s talk _ = talk

-- the store receives a letter of another thread, if it waits for one
abbrev pub other_comes : ℕ → ℕ → List ℕ → ℕ → Talk → Stand → Talk
other_comes s x text room talk AwaitsLetter = if x == s then talk
    else record talk { keeper = Hears (answer.Letter x text room) }
other_comes s x text room talk _ = talk

-- ---- ends

-- who waits for a line of an agent that ends is refused
abbrev pub after_line_refusal : Stand → Stand
after_line_refusal AwaitsLetter = Hears nonexist
after_line_refusal stand = stand

-- the agent ends
abbrev pub agent_ends : Talk → Talk
agent_ends talk = record talk { agent_lives = false; client = after_line_refusal talk.client }

-- the session dies, and its letter is gone
abbrev pub session_dies : Talk → Talk
session_dies talk = record talk { client = IsOver; mail = Nothing }

-- ---- what may happen

-- a turn of the session or of the store, a letter for either, or an end; whatever can't happen just then changes
-- nothing
pub data Event : Type 0 where
  SessionTurn : Names → Event
  StoreTurn : Option LwpErr → Names → Event
  Line : List ℕ → Event
  OwnLetter : Event
  OtherLetter : ℕ → List ℕ → ℕ → Event
  AgentEnds : Event
  SessionDies : Event

-- one of these, where s is the session and a its agent
abbrev pub talk_on : ℕ → ℕ → Talk → Event → Talk
talk_on s a talk (SessionTurn names) = session_turn a names talk talk.client
talk_on s a talk (StoreTurn refusal names) = store_turn s refusal names talk talk.keeper
talk_on s a talk (Line text) = line_comes a text talk talk.client
talk_on s a talk OwnLetter = letter_comes s talk talk.keeper
talk_on s a talk (OtherLetter x text room) = other_comes s x text room talk talk.keeper
talk_on s a talk AgentEnds = agent_ends talk
talk_on s a talk SessionDies = session_dies talk

-- some of these in turn
abbrev pub after_events : ℕ → ℕ → Talk → List Event → Talk
after_events s a talk events = fold (talk_on s a) talk events

-- ---- the law

-- the texts are the first of the others
pub record AreFirst (texts others : List (List ℕ)) : Type 0 where
  pub rest : List (List ℕ)
  pub whole : texts ++ rest ≡ others

-- Whatever happens and whatever others send to the store, what the client is told is a first part of the answers to its
-- lines.
abbrev pub TalksAreAnswers : Type 0
TalksAreAnswers = (s a event store : ℕ) (events : List Event)
    → AreFirst (after_events s a (opening_talk event store) events).told
    (line_answers (after_events s a (opening_talk event store) events).lines)
