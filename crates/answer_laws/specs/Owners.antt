-- What the owner of an agent is answered, and who sends a letter.
use Rattle.answer_laws.specs.Agents.{AgentSight, agent_sight}
use Rattle.answer_laws.specs.Sights.{Sight, answers_to, going_on, sight}
use Rattle.lwp_types.specs.Choice.{choice}
use Rattle.lwp_types.specs.Lawful.{Lawful}
use Rattle.lwp_types.specs.Messages.{as_received, takes_from}
use Rattle.lwp_types.specs.State.{Outcome, State, agent_of, is_id, is_thread, passes, thread_of}
use Rattle.lwp_types.specs.Step.{step}
use Rattle.lwp_types.specs.Unblock.{nonexist, zero_answer}
use Rattle.lwp_types.specs.declared.call.Answer.{Answer}
use Rattle.lwp_types.specs.declared.call.Mode.{Mode}
use Rattle.lwp_types.specs.declared.rows.AgentRow.{AgentRow}
use Rattle.lwp_types.specs.declared.rows.Letter.{Letter}
use Rattle.std.specs.List.{list_all}
use Rattle.std.specs.Prelude.{List, None, Some, [], false, length, true, ℕ, ◌++◌, ◌==◌, ◌∷◌, ◌≡◌, ◌≤◌}
use Rattle.lwp_types.specs.declared.call.Answer.TheVariants as answer
use Rattle.lwp_types.specs.declared.call.Call.TheVariants as call
use Rattle.lwp_types.specs.declared.call.Mode.TheVariants as mode
use Rattle.lwp_types.specs.declared.rows.Block.TheVariants as block

-- the caller t is told so, and shows itself so then, and its agent a shows itself so
pub record IsTold (t a : ℕ) (said : List Answer) (itself : Sight) (agent : AgentSight) (out : Outcome) : Type 0 where
  pub told : answers_to t out.effects ≡ said
  pub itself_then : sight out.after t ≡ itself
  pub agent_then : agent_sight out.after a ≡ agent

-- A receive of an owner by its agent's name: it is answered a message that it hasn't received, as that was delivered,
-- and waits else.
pub record OwnerReceives (s : State) (t a : ℕ) (row : AgentRow) (out : Outcome) : Type 0 where
  pub finds : (letter : Letter) → (agent_sight s a).letters ≡ letter ∷ [] → letter.received ≡ false
      → IsTold t a (answer.Letter a letter.text letter.room ∷ []) (sight s t)
      (record { row = Some row; letters = as_received letter ∷ [] }) out
  pub waits : list_all (λ letter. letter.received) (agent_sight s a).letters ≡ true
      → IsTold t a [] (record (sight s t) { waits = Some (block.Receiving (Some a)) }) (agent_sight s a) out

abbrev pub OwnersReceive : Type 0
OwnersReceive = (s : State) → Lawful s None → (t a : ℕ) (row : AgentRow) → choice s ≡ Some t
    → agent_of s.agents a ≡ Some row → row.owner ≡ t → OwnerReceives s t a row (step s (call.Recv (Some a) mode.Block))

-- A reply of an owner to a message that it has received, and that has room for the text, is accepted; and the agent
-- holds none any more.
abbrev pub OwnersReply : Type 0
OwnersReply = (s : State) → Lawful s None → (t a : ℕ) (row : AgentRow) → choice s ≡ Some t
    → agent_of s.agents a ≡ Some row → row.owner ≡ t
    → (letter : Letter) → (agent_sight s a).letters ≡ letter ∷ [] → letter.received ≡ true
    → (text : List ℕ) → length text ≤ letter.room
    → IsTold t a (zero_answer ∷ []) (sight s t) (record { row = Some (record row { holding = false }); letters = [] })
    (step s (call.Reply a text))

-- Of an agent that isn't there, its owner is told so.
pub record IsRefused (t a : ℕ) (s : State) (out : Outcome) : Type 0 where
  pub refused : IsTold t a (nonexist ∷ []) (sight s t) (agent_sight s a) out

abbrev pub OwnersOfNoneAreRefused : Type 0
OwnersOfNoneAreRefused = (s : State) (t a : ℕ) → choice s ≡ Some t → is_id s a ≡ false
    → ((how : Mode) → IsRefused t a s (step s (call.Recv (Some a) how)))
    × ((text : List ℕ) → IsRefused t a s (step s (call.Reply a text)))

-- ---- who sends a letter

-- the letter that t sends to k
abbrev pub new_letter : ℕ → ℕ → ℕ → List ℕ → Letter
new_letter t k room text = record { from = t; to = k; text = text; room = room; received = false }

-- who has sent this letter waits for the reply
abbrev pub sending : Sight → Letter → Sight
sending seen letter = record seen { waits = Some block.Sending; letters = seen.letters ++ letter ∷ [] }

-- the sender t and the receiver k show themselves so then, and are told so
pub record IsSentTo (t k : ℕ) (sender receiver : Sight) (said : List Answer) (out : Outcome) : Type 0 where
  pub sender_then : sight out.after t ≡ sender
  pub sender_told : answers_to t out.effects ≡ []
  pub receiver_then : sight out.after k ≡ receiver
  pub receiver_told : answers_to k out.effects ≡ said

-- a letter to another thread: who waits for such a one has received it, and goes on with it; from anybody else it waits
-- to be received
pub record Sends (s : State) (t k room : ℕ) (text : List ℕ) (out : Outcome) : Type 0 where
  pub handed : passes (λ row. takes_from t row.block) (thread_of s k) ≡ true
      → IsSentTo t k (sending (sight s t) (as_received (new_letter t k room text)))
      (going_on (sight s k)) (answer.Letter t text room ∷ []) out
  pub kept : passes (λ row. takes_from t row.block) (thread_of s k) ≡ false
      → IsSentTo t k (sending (sight s t) (new_letter t k room text)) (sight s k) [] out

abbrev pub SendsAreLetters : Type 0
SendsAreLetters = (s : State) → Lawful s None → (t k : ℕ) → choice s ≡ Some t → is_thread s k ≡ true
    → (k == t) ≡ false → (room : ℕ) (text : List ℕ) → Sends s t k room text (step s (call.Send k room text))
