-- Steps of two sessions, worked out by hand. The store is thread 1, the client's session 2, and its agent 4.
use Rattle.answer_laws.specs.Births.{begins_in, is_unsent_till}
use Rattle.answer_laws.specs.Written.{owns, replies_are_of}
use Rattle.answer_laws.specs.Clients.{Step, all_sends_to, texts_delivered, replies_accepted}
use Rattle.lwp_types.specs.Names.{null_id}
use Rattle.lwp_types.specs.Unblock.{nonexist, zero_answer}
use Rattle.lwp_types.specs.declared.call.Effect.{Effect}
use Rattle.lwp_types.specs.declared.call.Flags.{Flags}
use Rattle.pod_runner.specs.Session.{Made}
use Rattle.std.specs.Prelude.{Bool, List, None, Some, [], codes, false, true, ℕ, ◌∷◌, ◌≡◌}
use Rattle.lwp_types.specs.declared.call.Answer.TheVariants as answer
use Rattle.lwp_types.specs.declared.call.Call.TheVariants as call
use Rattle.lwp_types.specs.declared.call.Effect.TheVariants as effect
use Rattle.lwp_types.specs.declared.call.Mode.TheVariants as mode

-- a step with no line, and one with a line
abbrev pub calls : List Effect → Step
calls es = record { text = None; effects = es }

abbrev pub takes : List ℕ → List Effect → Step
takes text es = record { text = Some text; effects = es }

-- these lines were delivered to agent 4, thread 2 has replied so to it, and all that it sent went to thread 1, or not
abbrev pub Tells : List Step → List (List ℕ) → List (List ℕ) → Bool → Type 0
Tells steps lines replies alone = (texts_delivered 4 steps ≡ lines)
    × (replies_accepted 2 4 steps ≡ replies) × (all_sends_to 2 1 steps ≡ alone)

-- a client that asks for a key and quits
abbrev pub asked_and_quit : List Step
asked_and_quit = calls (effect.Called 2 (call.Agent 1) ∷ effect.Answered 2 (answer.Thread 4) ∷ [])
    ∷ calls (effect.Called 2 (call.Recv (Some 4) mode.Block) ∷ [])
    ∷ takes (codes "get k") (effect.Delivered 4 1 ∷ effect.Answered 2 (answer.Letter 4 (codes "get k") 240) ∷ [])
    ∷ calls (effect.Called 2 (call.Send 1 240 (codes "get k"))
    ∷ effect.Answered 1 (answer.Letter 2 (codes "get k") 240) ∷ [])
    ∷ calls (effect.Called 1 (call.Reply 2 (codes "none"))
    ∷ effect.Answered 2 (answer.Reply (codes "none")) ∷ effect.Answered 1 zero_answer ∷ [])
    ∷ calls (effect.Called 2 (call.Reply 4 (codes "none")) ∷ effect.Answered 2 zero_answer ∷ [])
    ∷ calls (effect.Called 2 (call.Recv (Some 4) mode.Block) ∷ [])
    ∷ takes (codes "quit") (effect.Delivered 4 1 ∷ effect.Answered 2 (answer.Letter 4 (codes "quit") 240) ∷ [])
    ∷ calls (effect.Called 2 (call.Reply 4 (codes "bye")) ∷ effect.Answered 2 zero_answer ∷ [])
    ∷ calls (effect.Called 2 call.Return ∷ effect.Died 2 ∷ [])
    ∷ []

-- a report to the agent, a line of another event that is trapped, a reply after the trap, a reply to an agent that has
-- gone, and a Send to another than the store
abbrev pub trapped_and_gone : List Step
trapped_and_gone = calls (effect.Called 0 (call.Destroy 7) ∷ effect.Died 7
    ∷ effect.Answered 0 zero_answer ∷ effect.Rites 4 7 ∷ effect.Answered 2 (answer.Letter 4 (codes "t7") 240) ∷ [])
    ∷ takes (codes "get k") (effect.Delivered null_id 5 ∷ [])
    ∷ calls (effect.Trapped 2 5 ∷ effect.Called 2 (call.Reply 4 (codes "bad")) ∷ effect.Answered 2 zero_answer ∷ [])
    ∷ takes (codes "what") (effect.Delivered 4 32 ∷ [])
    ∷ calls (effect.Called 0 (call.Destroy 4) ∷ effect.Answered 2 nonexist ∷ effect.Answered 0 zero_answer ∷ [])
    ∷ calls (effect.Called 2 (call.Reply 4 (codes "bad")) ∷ effect.Answered 2 nonexist ∷ [])
    ∷ calls (effect.Called 2 (call.Send 3 240 (codes "get k")) ∷ [])
    ∷ []

-- ---- births

-- a step with no line, as a session has it
abbrev pub call_made : List Effect → Made
call_made es = record { take = None; effects = es }

-- of no special kind
abbrev pub plain : Flags
plain = record { suspended = false; nolastrites = false; server = false }

-- thread 0 creates a thread of procedure 5, which asks who it is; a Create is refused, and after a trap another thread
-- begins in procedure 6
abbrev pub two_created : List Made
two_created = call_made (effect.Called 0 (call.Create 5 2 plain) ∷ effect.Answered 0 (answer.Thread 1) ∷ [])
    ∷ call_made (effect.Called 1 call.Me ∷ effect.Answered 1 (answer.Thread 1) ∷ [])
    ∷ call_made (effect.Called 0 (call.Create 9 1 plain) ∷ effect.Answered 0 nonexist ∷ [])
    ∷ call_made
    (effect.Trapped 0 5 ∷ effect.Called 0 (call.Create 6 1 plain) ∷ effect.Answered 0 (answer.Thread 2) ∷ [])
    ∷ []

-- threads 1 and 2 begin in these procedures, and threads 0 and 3 in none that a step tells
abbrev pub Begin : List Made → ℕ → ℕ → Type 0
Begin steps one two = (begins_in 1 steps ≡ Some one) × (begins_in 2 steps ≡ Some two)
    × (begins_in 0 steps ≡ None) × (begins_in 3 steps ≡ None)

-- thread 0 creates thread 1, which sends to it, and then thread 2
abbrev pub sent_between : List Made
sent_between = call_made (effect.Called 0 (call.Create 5 2 plain) ∷ effect.Answered 0 (answer.Thread 1) ∷ [])
    ∷ call_made (effect.Called 1 (call.Agent 1) ∷ effect.Answered 1 (answer.Thread 4) ∷ [])
    ∷ call_made (effect.Called 1 (call.Send 0 240 (codes "hello")) ∷ [])
    ∷ call_made (effect.Called 0 (call.Create 6 1 plain) ∷ effect.Answered 0 (answer.Thread 2) ∷ [])
    ∷ []

-- thread 1 has sent something when thread 2 is born, and nothing when thread 4 is, though it calls; thread 0 has sent
-- nothing, which creates them
abbrev pub Wait : List Made → Type 0
Wait steps = (is_unsent_till 2 1 steps ≡ false) × (is_unsent_till 4 1 steps ≡ true)
    × (is_unsent_till 2 0 steps ≡ true) × (is_unsent_till 1 1 steps ≡ true)

-- thread 1 asks for an agent, 4; a reply of thread 0 to that is refused, and one of thread 1 is accepted
abbrev pub replied_by_owner : List Made
replied_by_owner = call_made (effect.Called 1 (call.Agent 1) ∷ effect.Answered 1 (answer.Thread 4) ∷ [])
    ∷ call_made (effect.Called 0 (call.Reply 4 (codes "no")) ∷ effect.Answered 0 nonexist ∷ [])
    ∷ call_made (effect.Called 1 (call.Reply 4 (codes "hi")) ∷ effect.Answered 1 zero_answer ∷ [])
    ∷ []

-- thread 1 owns the agent, and nobody else does; of the accepted replies to it, all are of thread 1
abbrev pub Own : List Made → Type 0
Own steps = (owns 1 4 steps ≡ true) × (owns 0 4 steps ≡ false)
    × (replies_are_of 1 4 steps ≡ true) × (replies_are_of 0 4 steps ≡ false)
