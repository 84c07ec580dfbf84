-- What `Agents` keeps of its fields, for its own proofs: callers see the roster alone.
use Rattle.agents.specs.Board.{tally_at}
use Rattle.agents.specs.Index.{Entries, numbers_under}
use Rattle.agents.specs.Roster.{IsInBirthOrder, Roster}
use Rattle.agents.specs.declared.board.Tally.{Tally}
use Rattle.agents.specs.declared.index.Entry.{Entry}
use Rattle.lwp_types.specs.Agents.{is_for}
use Rattle.lwp_types.specs.State.{agent_numbers}
use Rattle.lwp_types.specs.declared.rows.AgentRow.{AgentRow}
use Rattle.std.specs.List.{count_by, filter}
use Rattle.std.specs.Prelude.{Bool, List, length, slice_index_or, ℕ, ◌&&◌, ◌<◌, ◌==◌, ◌≡◌, ◌≤◌}

-- the agent stands there
pub record IsAgentAt (a : ℕ) (rows : List AgentRow) (i : ℕ) : Type 0 where
  pub within : i < length rows
  pub number : (d : AgentRow) → (slice_index_or rows i d).number ≡ a

-- the agent holds a message of event e
abbrev pub holds_for : ℕ → AgentRow → Bool
holds_for e row = is_for e row && row.holding

-- how many agents an event has, and how many of them hold a message
abbrev pub tally_in : List AgentRow → ℕ → Tally
tally_in rows e = record { agents = count_by (is_for e) rows; holding = count_by (holds_for e) rows }

-- the board has the tally of each event
abbrev pub IsTallied : List AgentRow → List Tally → Type 0
IsTallied rows board = (e : ℕ) → tally_at board e ≡ tally_in rows e

-- under each key stand the numbers of its agents, in birth order, and no others
pub record IsIndexed (key : AgentRow → ℕ) (rows : List AgentRow) (es : List Entry) : Type 0 where
  pub each : (k : ℕ) → numbers_under k es ≡ agent_numbers (filter (λ row. key row == k) rows)
  pub all : length es ≡ length rows

-- the agents stand in birth order, are found by their event and by their owner, and are counted; and each list has room
-- for as many as there are places
pub record IsKept (r : Roster) (room : ℕ) (by_event by_owner : Entries) (board : List Tally) : Type 0 where
  pub in_order : IsInBirthOrder r.agents
  pub events : IsIndexed (λ row. row.event) r.agents by_event.entries
  pub owners : IsIndexed (λ row. row.owner) r.agents by_owner.entries
  pub tallied : IsTallied r.agents board
  pub wide : length board ≡ 33
  pub fits : length r.agents ≤ r.places
  pub places_fit : r.places ≤ room
  pub events_fit : r.places ≤ by_event.room
  pub owners_fit : r.places ≤ by_owner.room
