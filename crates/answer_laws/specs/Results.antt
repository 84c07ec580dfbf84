-- What `answers_main` writes of a client of the line server, from what it tells of its session.
use Rattle.answer_laws.specs.Births.{begins_in}
use Rattle.answer_laws.specs.Scripts.{IsServed}
use Rattle.answer_laws.specs.Written.{IsFirstWritten, replies_are_of}
use Rattle.line_server.specs.Sessions.{session_opening}
use Rattle.line_server.specs.Stores.{store_opening}
use Rattle.lwp_serve.specs.Answers.Answers.{IsTold}
use Rattle.lwp_serve.specs.Answers.Replies.{event_of, known_after_steps}
use Rattle.lwp_types.specs.Streams.{after_append}
use Rattle.pod_runner.specs.Session.{Made}
use Rattle.pod_runner.specs.declared.session.Took.{Took}
use Rattle.script_body.specs.Bodies.{bodies_of}
use Rattle.script_body.specs.declared.thread_body.ThreadBody.TheVariants.{Serving, Storing}
use Rattle.script_session.specs.SoFar.{session_at}
use Rattle.script_text.specs.Grammar.{Spells}
use Rattle.script_text.specs.declared.script.Script.{Script}
use Rattle.std.specs.Prelude.{List, Option, Some, [], false, slice_get, true, ℕ, ◌==◌, ◌∷◌, ◌≡◌}
use Rattle.trace_text.specs.declared.ends.Halt.{Halt}

-- these bytes were written, and they are the first answers to the lines delivered to a
pub record WritesFirst (a : ℕ) (steps : List Made) (old new : Option (List ℕ)) : Type 0 where
  pub bytes : List ℕ
  pub written : new ≡ after_append old bytes
  pub first : IsFirstWritten a steps bytes

-- Where `answers_main` says of a script that bytes spell that its session came to its end and the client's answers were
-- written: a first part of the answers to the client's lines was, if the client has a session and a store that lives in
-- the end, all that the session has sent went to it, and the client's event has had the session's agent alone.
abbrev pub AnswersAreFirst : Type 0
AnswersAreFirst = (text : List ℕ) (script : Script) → Spells text script
    → (client turns calls : ℕ) (old new : Option (List ℕ)) (takes : List Took) (halt : Halt)
    → IsTold client turns script old new takes calls halt
    → (s k in_s in_k event place : ℕ) → (s == k) ≡ false
    → begins_in s (session_at script takes calls).steps ≡ Some in_s
    → slice_get (bodies_of script) in_s ≡ Some (Serving (session_opening event place))
    → begins_in k (session_at script takes calls).steps ≡ Some in_k
    → slice_get (bodies_of script) in_k ≡ Some (Storing store_opening)
    → IsServed s k (session_at script takes calls)
    → (e a : ℕ) → event_of script client ≡ Some e
    → (known_after_steps (Some e) (session_at script takes calls).steps).agents ≡ a ∷ []
    → replies_are_of s a (session_at script takes calls).steps ≡ true
    → WritesFirst a (session_at script takes calls).steps old new
