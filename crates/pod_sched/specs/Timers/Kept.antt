-- How the leaves are kept: a tree has their ticks, and an index the leaf of each thread. No public clause cites this
-- module.
use Rattle.lwp_types.specs.Unblock.{is_timer_of}
use Rattle.lwp_types.specs.declared.rows.TimerRow.{TimerRow}
use Rattle.std.specs.Prelude.{List, Option, length, slice_index_or, ℕ, ◌≡◌, ◌≤◌}
use Rattle.lists.specs.ThreadIndex.{Found, count_of, place_of, width_of}
use Rattle.pod_sched.specs.Timers.Leaves.{IsOnce, due_of, first_of, leaf_at, never}
use Rattle.lists.specs.Living.{living}

-- the tree has the tick of each leaf, and the index the leaf of each thread
pub record IsFiled (leaves : List (Option TimerRow)) (dues : List ℕ) (index : Found) : Type 0 where
  pub tied : (i : ℕ) → slice_index_or dues i never ≡ due_of (leaf_at leaves i)
  pub found : (t : ℕ) → place_of index t ≡ first_of (is_timer_of t) leaves
  pub counted : count_of index ≡ length (living leaves)

-- and nobody has two timers, and there is room
pub record IsShelved (leaves : List (Option TimerRow)) (dues : List ℕ) (index : Found) (places : ℕ) : Type 0 where
  pub filed : IsFiled leaves dues index
  pub once : IsOnce leaves
  pub fits : length leaves ≤ length dues
  pub cells : width_of index ≡ length dues
  pub room : length dues ≤ index.room
  pub capacity : length dues ≤ places
