-- The keys of a state's lists.
use Rattle.snapshots.specs.declared.pod.StateCopy.{StateCopy}
use Rattle.state_text.specs.declared.tables.Tables.{Tables}
use Rattle.lwp_types.specs.declared.rows.AgentRow.{AgentRow}
use Rattle.state_text.specs.declared.turns.EventKeys.{EventKeys}
use Rattle.std.specs.List.{filter}
use Rattle.std.specs.Prelude.{List, map, ◌≡◌}

-- each table has the keys of its list
pub record AreTables (state : StateCopy) (tables : Tables) : Type 0 where
  pub threads : tables.threads ≡ map (λ row. row.number) state.threads
  pub timers : tables.timers ≡ map (λ row. row.tid) state.timers
  pub owners : tables.owners ≡ map (λ lock. lock.owner) state.locks
  pub locked : tables.locked ≡ map (λ lock. lock.mon) state.locks
  pub receivers : tables.receivers ≡ map (λ letter. letter.to) state.letters
  pub senders : tables.senders ≡ map (λ letter. letter.from) state.letters
  pub agents : tables.agents ≡ map (λ row. row.owner) state.agents
  pub requests : tables.requests ≡ map (λ r. r.mon) state.requests
  pub waits : tables.waits ≡ map (λ w. w.cond) state.waits

-- the events of these agents, of all and of those that hold a message
pub record AreEventKeys (agents : List AgentRow) (keys : EventKeys) : Type 0 where
  pub all : keys.all ≡ map (λ row. row.event) agents
  pub holding : keys.holding ≡ map (λ row. row.event) (filter (λ row. row.holding) agents)
