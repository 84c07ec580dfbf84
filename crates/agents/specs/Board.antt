-- A board: how many agents each event has, and how many of them hold a message. No public clause cites this module.
use Rattle.agents.specs.declared.board.Tally.{Tally}
use Rattle.lists.specs.EventMarks.{is_marked}
use Rattle.std.specs.Prelude.{Bool, List, length, not, slice_index_or, ℕ, ◌&&◌, ◌==◌, ◌≡◌}

-- no agents
abbrev pub no_tally : Tally
no_tally = record { agents = 0; holding = 0 }

-- the tally of an event
abbrev pub tally_at : List Tally → ℕ → Tally
tally_at board e = slice_index_or board e no_tally

-- there are agents, and none of them holds a message
abbrev pub is_ready : Tally → Bool
is_ready tally = not (tally.agents == 0) && tally.holding == 0

-- there is a tally for each event, and the word marks the events that can be delivered
pub record IsMarked (board : List Tally) (word : ℕ) : Type 0 where
  pub wide : length board ≡ 33
  pub marked : (e : ℕ) → is_marked word e ≡ is_ready (tally_at board e)
