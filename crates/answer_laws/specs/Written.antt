-- What is written of a client: the replies to the agents of its event, and those of one thread to one agent.
use Rattle.answer_laws.specs.Births.{HoldsAlways}
use Rattle.answer_laws.specs.Clients.{texts_delivered, replies_accepted}
use Rattle.answer_laws.specs.Served.{steps_of}
use Rattle.answer_laws.specs.Talks.{AreFirst}
use Rattle.line_server.specs.Tables.{line_answers}
use Rattle.lwp_types.specs.State.{passes}
use Rattle.lwp_types.specs.declared.call.Call.{Call}
use Rattle.lwp_types.specs.declared.call.Call.TheVariants as call
use Rattle.pod_runner.specs.Due.{IsDefined}
use Rattle.pod_runner.specs.Play.{play}
use Rattle.pod_runner.specs.Session.{Setting}
use Rattle.pod_runner.specs.Session as Sessions
use Rattle.pod_runner.specs.declared.session.Made.{Made}
use Rattle.pod_runner.specs.declared.session.Took.{Took}
use Rattle.lwp_serve.specs.Answers.Replies.{agent_event, answers_after, answers_of, call_in, event_of, known_after_steps, replies_in}
use Rattle.lwp_serve.specs.Plan.Planned.{calls_of, takes_of}
use Rattle.script_body.specs.declared.thread_body.ThreadBody.TheVariants.{Serving, Storing}
use Rattle.script_session.specs.SoFar.{setting_of}
use Rattle.script_text.specs.declared.script.Script.{Script}
use Rattle.std.specs.List.{flat_map, list_all, list_any}
use Rattle.std.specs.Prelude.{Bool, List, None, Option, Some, [], false, is_some, not, true, ℕ, ◌&&◌, ◌++◌, ◌==◌, ◌∷◌, ◌≡◌, ◌≤◌, ◌||◌}

-- each text on a line of its own
abbrev pub text_lines : List (List ℕ) → List ℕ
text_lines texts = flat_map (λ text. text ++ 10 ∷ []) texts

-- the call is a reply to a
abbrev pub is_reply_to : ℕ → Call → Bool
is_reply_to a (call.Reply b text) = b == a
is_reply_to a _ = false

-- the call, if it is an accepted reply to a, is of s
abbrev pub is_reply_of : ℕ → ℕ → Option Made → Bool
is_reply_of s a None = true
is_reply_of s a (Some made) = not (is_reply_to a made.call && made.zero) || made.tid == s

-- nobody but s is told that a reply of his to a was accepted
abbrev pub replies_are_of : ℕ → ℕ → List Sessions.Made → Bool
replies_are_of s a steps = list_all (λ step. is_reply_of s a (call_in step.take step.effects)) steps

-- the call asked for agent a, was given it, and is of s
abbrev pub is_asking_of : ℕ → ℕ → Option Made → Bool
is_asking_of s a None = false
is_asking_of s a (Some made) =
    (is_some (agent_event made.call) && passes (λ b. b == a) made.thread) && made.tid == s

-- s asked for agent a in one of these steps, and so owns it
abbrev pub owns : ℕ → ℕ → List Sessions.Made → Bool
owns s a steps = list_any (λ step. is_asking_of s a (call_in step.take step.effects)) steps

-- Nobody but its owner replies to an agent: nobody else is told that a reply of his to it was accepted.
abbrev pub OwnersAloneReply : Type 0 → Type 0
OwnersAloneReply B = (setting : Setting B) → 1 ≤ setting.params.maxpri
    → setting.params.maxpri ≤ 255 → (takes : List Took) (n : ℕ) → IsDefined setting takes n
    → (s a : ℕ) → owns s a (play setting takes n).steps ≡ true
    → replies_are_of s a (play setting takes n).steps ≡ true

-- Where an event has had one agent, and nobody but s has replied to that, as nobody but its owner does: what its client
-- was told are the accepted replies of s, each on a line of its own.
abbrev pub RepliesAreWritten : Type 0 → Type 0
RepliesAreWritten B = (setting : Setting B) → 1 ≤ setting.params.maxpri
    → setting.params.maxpri ≤ 255 → (takes : List Took) (n : ℕ) → IsDefined setting takes n
    → (s e a : ℕ) → (known_after_steps (Some e) (play setting takes n).steps).agents ≡ a ∷ []
    → replies_are_of s a (play setting takes n).steps ≡ true
    → replies_in (Some e) (play setting takes n).steps
    ≡ text_lines (replies_accepted s a (steps_of (play setting takes n).steps))

-- these bytes are the first answers to the lines delivered to a, each on a line of its own
pub record IsFirstWritten (a : ℕ) (steps : List Sessions.Made) (bytes : List ℕ) : Type 0 where
  pub texts : List (List ℕ)
  pub first : AreFirst texts (line_answers (texts_delivered a (steps_of steps)))
  pub written : bytes ≡ text_lines texts

-- So what `answers` writes of a client of a script, in each of its sessions: where the client's event has had one
-- agent, and of the accepted replies to that all are of one client's session, as they are where the session owns it, it
-- is a first part of the answers to the lines delivered to that agent.
abbrev pub ClientsAreWritten : Type 0
ClientsAreWritten = (script : Script) → HoldsAlways (setting_of script) Serving Storing (λ s k end. Unit {0})
    (λ s end. (client e a : ℕ) → event_of script client ≡ Some e
    → (known_after_steps (Some e) end.steps).agents ≡ a ∷ []
    → replies_are_of s a end.steps ≡ true
    → IsFirstWritten a end.steps (replies_in (event_of script client) end.steps))

-- What a client is told in a plan is what it is told in the session that the plan's takes and calls play; and that each
-- of these was due, `answers_main` says.
abbrev pub PlansAreSessions : Type 0
PlansAreSessions = (script : Script) (turns client : ℕ)
    → answers_of client script turns ≡ answers_after client script (takes_of script turns) (calls_of script turns)
