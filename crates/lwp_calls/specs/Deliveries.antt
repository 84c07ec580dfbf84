-- Messages of an event's agents. No public clause cites this module.
use Rattle.lwp_types.specs.Agents.{deliver_to, is_for}
use Rattle.lwp_types.specs.State.{Outcome, State, agent_of, passes, still}
use Rattle.lwp_types.specs.declared.rows.AgentRow.{AgentRow}
use Rattle.std.specs.Prelude.{Bool, List, None, Option, Some, not, ℕ, ◌&&◌}

-- there is such an agent, of event e, and it holds no message
abbrev pub waits_for : ℕ → List AgentRow → ℕ → Bool
waits_for e rows a = passes (λ row. is_for e row && not row.holding) (agent_of rows a)

-- the agent that was found has the message
abbrev pub deliver_to_found : List ℕ → Option AgentRow → State → Outcome
deliver_to_found text None s = still s
deliver_to_found text (Some row) s = deliver_to text row s
