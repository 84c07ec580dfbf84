-- The agents of a pod as a plain list, and what each call makes of it.
use Rattle.lwp_types.specs.Agents.{belongs_to, event_agents, new_agent, without_agent}
use Rattle.lwp_types.specs.Messages.{with_holding}
use Rattle.lwp_types.specs.State.{agent_numbers, agent_of, passes, rises}
use Rattle.lwp_types.specs.declared.rows.AgentRow.{AgentRow}
use Rattle.std.specs.List.{find}
use Rattle.std.specs.Prelude.{Bool, IsTrue, List, None, Option, Some, [], false, is_some, max, not, slice_get, true, ℕ, ◌++◌, ◌∷◌}

-- all that is kept of the agents
pub record Roster : Type 0 where
  -- the live agents, in birth order
  pub agents : List AgentRow
  -- how many there can be without asking for memory
  pub places : ℕ

-- questions

-- the agent of an event that stands at this place among them, in birth order
abbrev pub nth_of : List AgentRow → ℕ → ℕ → Option ℕ
nth_of rows e i = slice_get (agent_numbers (event_agents rows e)) i

-- the first agent of a thread
abbrev pub first_of : List AgentRow → ℕ → Option AgentRow
first_of rows t = find (belongs_to t) rows

-- there is an agent of this number
abbrev pub is_listed : List AgentRow → ℕ → Bool
is_listed rows a = is_some (agent_of rows a)

-- there is, and it holds no message
abbrev pub is_idle : List AgentRow → ℕ → Bool
is_idle rows a = passes (λ row. not row.holding) (agent_of rows a)

-- the agents after each call

-- no agents, and room for none
abbrev pub no_agents : Roster
no_agents = record { agents = []; places = 0 }

-- places for n agents at least
abbrev pub after_reserve : Roster → ℕ → Roster
after_reserve r n = record r { places = max r.places n }

-- one agent more, the last, with no message
abbrev pub after_create : Roster → ℕ → ℕ → ℕ → Roster
after_create r a e t = record r { agents = r.agents ++ new_agent a e t ∷ [] }

-- the agent holds a message
abbrev pub after_hold : Roster → ℕ → Roster
after_hold r a = record r { agents = with_holding a true r.agents }

-- the agent holds none any more
abbrev pub after_release : Roster → ℕ → Roster
after_release r a = record r { agents = with_holding a false r.agents }

-- the agent is gone
abbrev pub after_destroy : Roster → ℕ → Roster
after_destroy r a = record r { agents = without_agent a r.agents }

-- the agent that was found is gone
abbrev pub without_found : Option AgentRow → List AgentRow → List AgentRow
without_found None rows = rows
without_found (Some row) rows = without_agent row.number rows

-- the first agent of a thread is gone
abbrev pub without_first : Roster → ℕ → Roster
without_first r t = record r { agents = without_found (first_of r.agents t) r.agents }

-- laws

-- the agents stand in birth order, no two of one number
pub record IsInBirthOrder (rows : List AgentRow) : Type 0 where
  pub rises : IsTrue (rises (agent_numbers rows))
