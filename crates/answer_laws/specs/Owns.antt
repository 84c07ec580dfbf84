-- The calls of the two themselves, in a pod with its own events: with the trap before a call, and the report after it.
use Rattle.answer_laws.specs.Clients.{replies_of_step, sends_well}
use Rattle.answer_laws.specs.Events.{machine_of}
use Rattle.answer_laws.specs.Stands.{Becomes, Leaves, OpensInVain, Stands, is_short_reply, is_short_to, texts_in}
use Rattle.answer_laws.specs.Talks.{Mail.Received, Stand.Hears, Talk}
use Rattle.line_server.specs.Sessions.{SessionBody, session_next}
use Rattle.line_server.specs.Stores.{store_next}
use Rattle.line_server.specs.declared.session.SessionPlace.TheVariants as at
use Rattle.lwp_types.specs.Choice.{choice}
use Rattle.lwp_types.specs.Lawful.{Lawful}
use Rattle.lwp_types.specs.Names.{Names}
use Rattle.lwp_types.specs.State.{Outcome, is_thread}
use Rattle.lwp_types.specs.Step.{step}
use Rattle.lwp_types.specs.declared.call.Answer.{Answer}
use Rattle.lwp_types.specs.declared.call.Answer.TheVariants as answer
use Rattle.lwp_types.specs.declared.call.Call.{Call}
use Rattle.pod_events.specs.Events.{EventState, take_event}
use Rattle.pod_events.specs.Step.{event_step}
use Rattle.pod_laws.specs.Forgotten.{IsGone}
use Rattle.answer_laws.specs.Sights.{answers_to}
use Rattle.std.specs.Prelude.{List, None, Some, [], false, true, ℕ, ◌==◌, ◌∷◌, ◌≡◌, ◌≤◌, ◌⊎◌}

-- A call of another is no reply of s, and neither is a line that is taken.
abbrev pub OthersReplyNothing : Type 0
OthersReplyNothing = (s a : ℕ) (es : EventState)
    → ((t : ℕ) → choice es.state ≡ Some t → (t == s) ≡ false → (c : Call)
    → replies_of_step s a (event_step es c).effects ≡ [])
    × ((e : ℕ) (text : List ℕ) → replies_of_step s a (take_event es e text).effects ≡ [])

-- A call of another, if the two are there after it: it is a letter to the store, or the end of the agent, or nothing,
-- and the report.
abbrev pub LivingCallsAreEvents : Type 0
LivingCallsAreEvents = (s k a : ℕ) (es : EventState) → Lawful es.state None
    → (talk : Talk) (waiting : List (List ℕ)) → Stands s k a es.state talk waiting
    → (t : ℕ) → choice es.state ≡ Some t → (t == s) ≡ false → (t == k) ≡ false → (c : Call)
    → is_thread (event_step es c).after.state s ≡ true → is_thread (event_step es c).after.state k ≡ true
    → (talk.session.place ≡ at.Start → (event_step es c).after.state.births ≤ a)
    → Becomes s k a talk talk.session talk.store waiting (texts_in a None (event_step es c).effects)
    [] (machine_of (event_step es c))
    ⊎ Leaves s talk (machine_of (event_step es c))

-- The store's call, if the store is still there after it, and its reply to a letter of the session is short: as the
-- talk says, and a letter with it if there is one, and the report.
abbrev pub PodsStoresCallsAreEvents : Type 0
PodsStoresCallsAreEvents = (s k a : ℕ) (es : EventState) → Lawful es.state None
    → (talk : Talk) (waiting : List (List ℕ)) → Stands s k a es.state talk waiting → (s == k) ≡ false
    → choice es.state ≡ Some k → (x : Answer) → talk.keeper ≡ Hears x → (names : Names)
    → is_thread (event_step es (store_next talk.store names x).0).after.state k ≡ true
    → ((sent : List ℕ) → talk.mail ≡ Received sent → is_short_to s (store_next talk.store names x).0 ≡ true)
    → (talk.session.place ≡ at.Start → (event_step es (store_next talk.store names x).0).after.state.births ≤ a)
    → Becomes s k a talk talk.session (store_next talk.store names x).1 waiting
    (texts_in a None (event_step es (store_next talk.store names x).0).effects) []
    (machine_of (event_step es (store_next talk.store names x).0))

-- what a call of the session comes to: it goes on as the talk says; or has asked for an agent in vain; or is gone
pub data SessionComes (s k a : ℕ) (talk : Talk) (waiting : List (List ℕ)) (body : SessionBody)
    (out : Outcome) : Type 0 where
  GoesOn : Becomes s k a talk body talk.store waiting (texts_in a None out.effects)
      (replies_of_step s a out.effects) out
      → SessionComes s k a talk waiting body out
  IsTurnedAway : OpensInVain s talk out → replies_of_step s a out.effects ≡ []
      → SessionComes s k a talk waiting body out
  Dies : IsGone out.after s → replies_of_step s a out.effects ≡ [] → SessionComes s k a talk waiting body out

-- The session's call, where its reply to its agent is short and it sends to nobody but the store, and to nobody where
-- there is none, unless a trap is raised before it.
abbrev pub PodsSessionsCallsAreEvents : Type 0
PodsSessionsCallsAreEvents = (s k a : ℕ) (es : EventState) → Lawful es.state None
    → (talk : Talk) (waiting : List (List ℕ)) → Stands s k a es.state talk waiting
    → choice es.state ≡ Some s → (x : Answer) → talk.client ≡ Hears x → (names : Names)
    → (talk.agent_lives ≡ true → is_short_reply (session_next talk.session names x).0 ≡ true)
    → (es.pending ≡ None → sends_well s k (session_next talk.session names x).0 ≡ true)
    → (talk.session.place ≡ at.Start → (b : ℕ)
    → answers_to s (step es.state (session_next talk.session names x).0).effects ≡ answer.Thread b ∷ [] → b ≡ a)
    → SessionComes s k a talk waiting (session_next talk.session names x).1
    (machine_of (event_step es (session_next talk.session names x).0))
