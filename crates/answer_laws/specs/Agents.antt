-- What of an agent is seen from outside, and what a step does to it.
use Rattle.answer_laws.specs.Sights.{IsLeft, answers_to, going_on, sight}
use Rattle.lwp_types.specs.Agents.{deliver, is_for, message}
use Rattle.lwp_types.specs.Choice.{choice}
use Rattle.lwp_types.specs.Lawful.{Lawful}
use Rattle.lwp_types.specs.Messages.{is_letter_of}
use Rattle.lwp_types.specs.State.{Outcome, State, agent_of, passes}
use Rattle.lwp_types.specs.Step.{step}
use Rattle.lwp_types.specs.declared.call.Call.{Call}
use Rattle.lwp_types.specs.declared.call.Effect.{Effect}
use Rattle.lwp_types.specs.declared.rows.AgentRow.{AgentRow}
use Rattle.lwp_types.specs.declared.rows.Block.{Block}
use Rattle.lwp_types.specs.declared.rows.Letter.{Letter}
use Rattle.std.specs.List.{count_by, filter}
use Rattle.std.specs.Prelude.{Bool, List, None, Option, Some, [], false, not, true, ℕ, ◌&&◌, ◌++◌, ◌==◌, ◌∷◌, ◌≡◌}
use Rattle.lwp_types.specs.declared.call.Answer.TheVariants as answer
use Rattle.lwp_types.specs.declared.call.Call.TheVariants as call
use Rattle.lwp_types.specs.declared.call.Effect.TheVariants as effect
use Rattle.lwp_types.specs.declared.rows.Block.TheVariants as block

-- an agent's row, if it is there, and its letters that aren't replied to
pub record AgentSight : Type 0 where
  pub row : Option AgentRow
  pub letters : List Letter

abbrev pub agent_sight : State → ℕ → AgentSight
agent_sight s a = record { row = agent_of s.agents a; letters = filter (is_letter_of a) s.letters }

-- that of one who isn't there
abbrev pub no_agent : AgentSight
no_agent = record { row = None; letters = [] }

-- the call destroys neither agent a nor its owner u
abbrev pub spares_agent : ℕ → ℕ → Call → Bool
spares_agent a u (call.Destroy v) = not (v == a) && not (v == u)
spares_agent a u _ = true

-- A call of another than an agent's owner leaves the agent and its letter as they are, unless it destroys the one or
-- the other.
abbrev pub OthersLeaveAgents : Type 0
OthersLeaveAgents = (s : State) → Lawful s None → (t a : ℕ) (row : AgentRow) → choice s ≡ Some t
    → agent_of s.agents a ≡ Some row → (t == row.owner) ≡ false → (c : Call) → spares_agent a row.owner c ≡ true
    → agent_sight (step s c).after a ≡ agent_sight s a

-- And who destroys an agent leaves nothing of it.
abbrev pub DestroyedAgentsAreGone : Type 0
DestroyedAgentsAreGone = (s : State) (t a : ℕ) (row : AgentRow) → choice s ≡ Some t
    → agent_of s.agents a ≡ Some row → agent_sight (step s (call.Destroy a)).after a ≡ no_agent

-- ---- lines and reports

-- how often these effects tell that something was delivered to it
abbrev pub is_delivery_to : ℕ → Effect → Bool
is_delivery_to a (effect.Delivered b e) = b == a
is_delivery_to a _ = false

abbrev pub deliveries_to : ℕ → List Effect → ℕ
deliveries_to a es = count_by (is_delivery_to a) es

-- nothing was delivered to it, and nothing of it changes
pub record IsPassedBy (a : ℕ) (s : State) (out : Outcome) : Type 0 where
  pub seen : agent_sight out.after a ≡ agent_sight s a
  pub none : deliveries_to a out.effects ≡ 0

-- it holds the message now, and its owner has a letter of it, which is received or not
pub record IsReached (a : ℕ) (row : AgentRow) (text : List ℕ) (received : Bool) (s : State)
    (out : Outcome) : Type 0 where
  pub seen : agent_sight out.after a ≡ record {
    row = Some (record row { holding = true });
    letters = (agent_sight s a).letters ++ record (message text row) { received = received } ∷ [];
  }
  pub once : deliveries_to a out.effects ≡ 1

-- who waits so goes on, or waits for a reply
abbrev pub is_busy : Option Block → Bool
is_busy (Some block.Not) = true
is_busy (Some block.Sending) = true
is_busy _ = false

-- its owner goes on with the letter
pub record IsHandedOn (u a : ℕ) (text : List ℕ) (s : State) (out : Outcome) : Type 0 where
  pub goes_on : sight out.after u ≡ going_on (sight s u)
  pub told : answers_to u out.effects ≡ answer.Letter a text 240 ∷ []

-- a text for its event reaches an agent: an owner who waits for its letter by name has received it, and one who is busy
-- has not
pub record Reaches (s : State) (a : ℕ) (row : AgentRow) (text : List ℕ) (out : Outcome) : Type 0 where
  pub awaited : (sight s row.owner).waits ≡ Some (block.Receiving (Some a))
      → IsReached a row text true s out × IsHandedOn row.owner a text s out
  pub kept : is_busy (sight s row.owner).waits ≡ true → IsReached a row text false s out × IsLeft row.owner s out

abbrev pub DeliveriesReachAgents : Type 0
DeliveriesReachAgents = (s : State) → Lawful s None → (a : ℕ) (row : AgentRow)
    → agent_of s.agents a ≡ Some row → (text : List ℕ) → Reaches s a row text (deliver s row.event text)

-- A text for an event passes by anyone who is no agent of it.
abbrev pub DeliveriesPassOthersBy : Type 0
DeliveriesPassOthersBy = (s : State) → Lawful s None → (a e : ℕ) (text : List ℕ)
    → passes (is_for e) (agent_of s.agents a) ≡ false → IsPassedBy a s (deliver s e text)
