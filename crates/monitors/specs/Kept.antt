-- What `Monitors` keeps of its fields, for its own proofs: callers see the table alone.
use Rattle.lwp_types.specs.MonitorRelease.{locks_on}
use Rattle.lwp_types.specs.State.{times_in}
use Rattle.monitors.specs.MonitorTable.{MonitorTable}
use Rattle.std.specs.List.{AllByRecursion}
use Rattle.std.specs.Prelude.{List, [], length, slice_index_or, ℕ, ◌<◌, ◌∷◌, ◌≡◌, ◌≤◌}

-- each number is greater than those before it
abbrev pub AreRising : List ℕ → Type 0
AreRising [] = Unit {0}
AreRising (n ∷ ns) = AllByRecursion (λ m. n < m) ns × AreRising ns

-- n stands there
pub record IsAt (n : ℕ) (ns : List ℕ) (i : ℕ) : Type 0 where
  pub within : i < length ns
  pub here : (d : ℕ) → slice_index_or ns i d ≡ n

-- each held monitor is live and held once, and each live one has room for its lock; they stand in birth order
pub record IsKept (s : MonitorTable) (lock_room : ℕ) : Type 0 where
  pub held_once : (m : ℕ) → locks_on s.locks m ≤ 1
  pub held_live : (m : ℕ) → locks_on s.locks m ≤ times_in s.monitors m
  pub locks_fit : length s.monitors ≤ lock_room
  pub rising : AreRising s.monitors
  pub born : AllByRecursion (λ m. m < s.births) s.monitors
