-- How a pod stands in which a session and a store talk: the machine's state, and the talk that it comes to.
use Rattle.answer_laws.specs.Agents.{agent_sight, deliveries_to, spares_agent}
use Rattle.lwp_types.specs.Agents.{deliver, is_event_armed}
use Rattle.answer_laws.specs.Clients.{replies_of_step, sends_well, text_to}
use Rattle.answer_laws.specs.Events.{machine_of}
use Rattle.answer_laws.specs.Lengths.{is_short}
use Rattle.answer_laws.specs.Sights.{answers_to, sight}
use Rattle.answer_laws.specs.Talks.{Event, Mail, Mail.Nothing, Mail.Received, Mail.Sent, Stand, Stand.AwaitsLetter}
use Rattle.answer_laws.specs.Talks.{Stand.AwaitsReply, Stand.Hears, Stand.IsOver, Talk, after_events}
use Rattle.line_server.specs.declared.session.SessionPlace.{SessionPlace}
use Rattle.line_server.specs.declared.session.SessionPlace.TheVariants as at
use Rattle.line_server.specs.Sessions.{SessionBody, session_next}
use Rattle.line_server.specs.Stores.{StoreBody, store_next}
use Rattle.lwp_types.specs.Choice.{choice}
use Rattle.lwp_types.specs.Counts.{timers_of}
use Rattle.lwp_types.specs.Lawful.{Lawful}
use Rattle.lwp_types.specs.Names.{Names, null_id}
use Rattle.lwp_types.specs.State.{Outcome, State, agent_of, is_id}
use Rattle.lwp_types.specs.Step.{step}
use Rattle.lwp_types.specs.Unblock.{nonexist, zero_answer}
use Rattle.lwp_types.specs.declared.call.Call.{Call}
use Rattle.lwp_types.specs.declared.call.Answer.{Answer}
use Rattle.lwp_types.specs.declared.call.Answer.TheVariants as answer
use Rattle.lwp_types.specs.declared.call.Call.TheVariants as call
use Rattle.lwp_types.specs.declared.call.Effect.{Effect}
use Rattle.lwp_types.specs.declared.call.LwpErr.{LwpErr}
use Rattle.lwp_types.specs.declared.rows.AgentRow.{AgentRow}
use Rattle.lwp_types.specs.declared.rows.Block.{Block}
use Rattle.lwp_types.specs.declared.rows.Block.TheVariants as block
use Rattle.lwp_types.specs.declared.rows.Letter.{Letter}
use Rattle.lwp_types.specs.declared.rows.Mark.TheVariants as mark
use Rattle.pod_events.specs.Events.{EventState, is_takeable, take_event}
use Rattle.pod_events.specs.Step.{event_step}
use Rattle.std.specs.List.{flat_map, fold}
use Rattle.std.specs.Prelude.{Bool, List, None, Option, Some, [], false, not, replicate, true, ℕ, ◌++◌, ◌<◌, ◌==◌, ◌∷◌, ◌≡◌, ◌≤◌, ◌||◌, ◌⊎◌}

-- what it waits for, who stands so in the talk and receives of such a sender
abbrev pub block_of : Option ℕ → Stand → Block
block_of from (Hears x) = block.Not
block_of from AwaitsLetter = block.Receiving from
block_of from AwaitsReply = block.Sending
block_of from IsOver = block.Not

-- a letter with the room of a line
abbrev pub line_letter : ℕ → ℕ → List ℕ → Bool → Letter
line_letter from to text received = record { from = from; to = to; text = text; room = 240; received = received }

-- the session's letters
abbrev pub mail_letters : ℕ → ℕ → Mail → List Letter
mail_letters s k Nothing = []
mail_letters s k (Sent text) = line_letter s k text false ∷ []
mail_letters s k (Received text) = line_letter s k text true ∷ []

-- it waits for a reply exactly if it has a letter, and isn't over
abbrev pub is_posted : Stand → Mail → Bool
is_posted (Hears x) Nothing = true
is_posted AwaitsLetter Nothing = true
is_posted AwaitsReply (Sent text) = true
is_posted AwaitsReply (Received text) = true
is_posted _ _ = false

-- it waits for a line or a reply only after such a call
abbrev pub is_placed : Stand → SessionPlace → Bool
is_placed AwaitsLetter at.Recv = true
is_placed AwaitsLetter _ = false
is_placed AwaitsReply at.Send = true
is_placed AwaitsReply _ = false
is_placed _ _ = true

-- a store that isn't over
abbrev pub is_reading : Stand → Bool
is_reading (Hears x) = true
is_reading AwaitsLetter = true
is_reading _ = false

-- it has received a line, and not replied to it
abbrev pub owes : SessionPlace → Stand → Bool
owes at.Recv (Hears (answer.Letter from text room)) = true
owes at.Send stand = true
owes _ _ = false

-- it knows its agent, or is told of it just then
abbrev pub knows : ℕ → ℕ → SessionPlace → Stand → Bool
knows a b at.Agent (Hears (answer.Thread c)) = c == a
knows a b at.Agent _ = false
knows a b at.Start _ = false
knows a b _ _ = b == a

-- the agent's letters: none; or a text that waits for the session; or one that it has received and owes a reply to
pub data AgentLetters (s a : ℕ) (owed : Bool) (waiting : List (List ℕ)) (letters : List Letter) : Type 0 where
  Idle : owed ≡ false → waiting ≡ [] → letters ≡ [] → AgentLetters s a owed waiting letters
  Waiting : (text : List ℕ) → owed ≡ false → waiting ≡ text ∷ []
      → letters ≡ line_letter a s text false ∷ [] → AgentLetters s a owed waiting letters
  Owed : (text : List ℕ) → owed ≡ true → waiting ≡ [] → letters ≡ line_letter a s text true ∷ []
      → AgentLetters s a owed waiting letters

-- the agent: it isn't made yet; or is there; or is gone
pub data AgentIs (s a : ℕ) (state : State) (talk : Talk) (waiting : List (List ℕ)) : Type 0 where
  Unmade : state.births ≤ a → talk.session.place ≡ at.Start → talk.agent_lives ≡ true → waiting ≡ []
      → AgentIs s a state talk waiting
  Made : (row : AgentRow) → agent_of state.agents a ≡ Some row → row.owner ≡ s
      → talk.agent_lives ≡ true → knows a talk.session.agent talk.session.place talk.client ≡ true
      → AgentLetters s a (owes talk.session.place talk.client) waiting (agent_sight state a).letters
      → AgentIs s a state talk waiting
  Gone : is_id state a ≡ false → a < state.births → talk.agent_lives ≡ false
      → knows a talk.session.agent talk.session.place talk.client ≡ true → AgentIs s a state talk waiting

-- nothing was sent to the store, and it wasn't polled
pub record IsUnwritten (talk : Talk) : Type 0 where
  pub mail : talk.mail ≡ Nothing
  pub keeper : talk.keeper ≡ Hears zero_answer

-- The session is thread s, the store k, and the agent a; these texts wait for the session. Where k is s there is no
-- store yet: nothing is said of it, and the session has sent it nothing.
pub record Stands (s k a : ℕ) (state : State) (talk : Talk) (waiting : List (List ℕ)) : Type 0 where
  pub client : sight state s
      ≡ record {
        waits = Some (block_of (Some a) talk.client);
        marks = mark.Frame ∷ [];
        letters = mail_letters s k talk.mail;
      }
  pub keeper : (s == k) ≡ false
      → sight state k ≡ record { waits = Some (block_of None talk.keeper); marks = mark.Frame ∷ []; letters = [] }
  pub posted : is_posted talk.client talk.mail ≡ true
  pub placed : is_placed talk.client talk.session.place ≡ true
  pub reads : is_reading talk.keeper ≡ true
  pub untimed : timers_of state.timers s ≡ 0
  pub untimed_keeper : (s == k) ≡ false → timers_of state.timers k ≡ 0
  pub alone : (s == k) ≡ true → IsUnwritten talk
  pub agent : AgentIs s a state talk waiting

-- ---- steps

-- what it was answered last, when it was answered z before
abbrev pub last_heard : Answer → List Answer → Answer
last_heard z answers = fold (λ before x. x) z answers

-- who goes on in the talk was answered so
abbrev pub HeardAs : Stand → Answer → Type 0
HeardAs (Hears x) z = z ≡ x
HeardAs _ z = Unit {0}

-- it was told what the talk says, if it was before
abbrev pub IsHeard : Stand → Stand → List Answer → Type 0
IsHeard before after answers = (z : Answer) → HeardAs before z → HeardAs after (last_heard z answers)

-- what the pod did is some events of the talk, with these bodies then; these texts were delivered to the agent, and
-- these replies to it accepted
pub record Becomes (s k a : ℕ) (talk : Talk) (session : SessionBody) (store : StoreBody)
    (waiting delivered replies : List (List ℕ)) (out : Outcome) : Type 0 where
  pub events : List Event
  pub session_then : (after_events s a talk events).session ≡ session
  pub store_then : (after_events s a talk events).store ≡ store
  -- the texts that wait for the session then
  pub waits : List (List ℕ)
  pub stands : Stands s k a out.after (after_events s a talk events) waits
  pub texts : (after_events s a talk events).lines ++ waits ≡ (talk.lines ++ waiting) ++ delivered
  pub said : (after_events s a talk events).told ≡ talk.told ++ replies
  pub heard : IsHeard talk.client (after_events s a talk events).client (answers_to s out.effects)
  pub heard_keeper : (s == k) ≡ false
      → IsHeard talk.keeper (after_events s a talk events).keeper (answers_to k out.effects)

-- the session has asked for an agent in vain
pub record OpensInVain (s : ℕ) (talk : Talk) (out : Outcome) : Type 0 where
  pub client : sight out.after s ≡ record { waits = Some block.Not; marks = mark.Frame ∷ []; letters = [] }
  pub untimed : timers_of out.after.timers s ≡ 0
  pub place : talk.session.place ≡ at.Start
  pub why : LwpErr
  pub told : answers_to s out.effects ≡ answer.Refused why ∷ []

-- the session, which has waited for a line, is told that nobody is there, and so it ends
pub record Leaves (s : ℕ) (talk : Talk) (out : Outcome) : Type 0 where
  pub client : sight out.after s ≡ record { waits = Some block.Not; marks = mark.Frame ∷ []; letters = [] }
  pub untimed : timers_of out.after.timers s ≡ 0
  pub place : talk.client ≡ AwaitsLetter
  pub told : answers_to s out.effects ≡ nonexist ∷ []

-- A call of another, which destroys neither: it is a letter to the store, or the end of the agent, or nothing.
abbrev pub OthersCallsAreEvents : Type 0
OthersCallsAreEvents = (s k a : ℕ) (state : State) → Lawful state None
    → (talk : Talk) (waiting : List (List ℕ)) → Stands s k a state talk waiting
    → (t : ℕ) → choice state ≡ Some t → (t == s) ≡ false → (t == k) ≡ false → (c : Call)
    → spares_agent s k c ≡ true → (talk.session.place ≡ at.Start → (step state c).after.births ≤ a)
    → Becomes s k a talk talk.session talk.store waiting [] [] (step state c) ⊎ Leaves s talk (step state c)

-- A text that is delivered is a line of the session's agent, or a letter to the store, or nothing.
abbrev pub DeliveriesAreEvents : Type 0
DeliveriesAreEvents = (s k a : ℕ) (state : State) → Lawful state None
    → (talk : Talk) (waiting : List (List ℕ)) → Stands s k a state talk waiting
    → (e : ℕ) (text : List ℕ) → is_event_armed state e ≡ true
    → Becomes s k a talk talk.session talk.store waiting
    (replicate (deliveries_to a (deliver state e text).effects) text) [] (deliver state e text)

-- a call that doesn't end its thread
abbrev pub goes_on_with : Call → Bool
goes_on_with call.Return = false
goes_on_with _ = true

-- a reply to the session, if the call is one, is short
abbrev pub is_short_to : ℕ → Call → Bool
is_short_to s (call.Reply v text) = not (v == s) || is_short text
is_short_to s _ = true

-- The store's call, where it is its turn, it goes on, and its reply to a letter of the session is short: as the talk
-- says, and a letter with it if there is one.
abbrev pub StoresCallsAreEvents : Type 0
StoresCallsAreEvents = (s k a : ℕ) (state : State) → Lawful state None
    → (talk : Talk) (waiting : List (List ℕ)) → Stands s k a state talk waiting → (s == k) ≡ false
    → choice state ≡ Some k → (x : Answer) → talk.keeper ≡ Hears x → (names : Names)
    → goes_on_with (store_next talk.store names x).0 ≡ true
    → ((sent : List ℕ) → talk.mail ≡ Received sent → is_short_to s (store_next talk.store names x).0 ≡ true)
    → (talk.session.place ≡ at.Start → (step state (store_next talk.store names x).0).after.births ≤ a)
    → Becomes s k a talk talk.session (store_next talk.store names x).1 waiting [] []
    (step state (store_next talk.store names x).0)

-- a reply is short, if the call is one
abbrev pub is_short_reply : Call → Bool
is_short_reply (call.Reply v text) = is_short text
is_short_reply _ = true

-- The session's call, where it is its turn, it goes on, its reply to its agent is short, and it sends to nobody but the
-- store, and to nobody where there is none: as the talk says, and a letter with it if there is one; unless it asks for
-- an agent in vain.
abbrev pub SessionsCallsAreEvents : Type 0
SessionsCallsAreEvents = (s k a : ℕ) (state : State) → Lawful state None
    → (talk : Talk) (waiting : List (List ℕ)) → Stands s k a state talk waiting
    → choice state ≡ Some s → (x : Answer) → talk.client ≡ Hears x → (names : Names)
    → goes_on_with (session_next talk.session names x).0 ≡ true
    → (talk.agent_lives ≡ true → is_short_reply (session_next talk.session names x).0 ≡ true)
    → sends_well s k (session_next talk.session names x).0 ≡ true
    → (talk.session.place ≡ at.Start → (b : ℕ)
    → answers_to s (step state (session_next talk.session names x).0).effects ≡ answer.Thread b ∷ [] → b ≡ a)
    → Becomes s k a talk (session_next talk.session names x).1 talk.store waiting []
    (replies_of_step s a (step state (session_next talk.session names x).0).effects)
    (step state (session_next talk.session names x).0)
    ⊎ OpensInVain s talk (step state (session_next talk.session names x).0)

-- ---- a talk in a pod with its own events

-- the texts that the agent gets by the effects of a step, with that of a line that was taken, if one was
abbrev pub texts_in : ℕ → Option (List ℕ) → List Effect → List (List ℕ)
texts_in a text es = flat_map (text_to a text) es

-- A call of another, with the trap before it and the report after it: a report is a line of the agent, if that is one
-- of event 32.
abbrev pub PodsCallsAreEvents : Type 0
PodsCallsAreEvents = (s k a : ℕ) (es : EventState) → Lawful es.state None
    → (talk : Talk) (waiting : List (List ℕ)) → Stands s k a es.state talk waiting
    → (t : ℕ) → choice es.state ≡ Some t → (t == s) ≡ false → (t == k) ≡ false → (c : Call)
    → spares_agent s k c ≡ true → (talk.session.place ≡ at.Start → (event_step es c).after.state.births ≤ a)
    → Becomes s k a talk talk.session talk.store waiting (texts_in a None (event_step es c).effects)
    [] (machine_of (event_step es c))
    ⊎ Leaves s talk (machine_of (event_step es c))

-- A line that is taken: it is delivered, or is a trap to be raised. No agent has the number to which a trapped line is
-- delivered.
abbrev pub TakesAreEvents : Type 0
TakesAreEvents = (s k a : ℕ) (es : EventState) → Lawful es.state None
    → (talk : Talk) (waiting : List (List ℕ)) → Stands s k a es.state talk waiting → (null_id == a) ≡ false
    → (e : ℕ) (text : List ℕ) → is_takeable es e ≡ true
    → Becomes s k a talk talk.session talk.store waiting
    (texts_in a (Some text) (take_event es e text).effects) [] (machine_of (take_event es e text))
