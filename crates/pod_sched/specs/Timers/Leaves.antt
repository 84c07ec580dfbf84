-- The leaves: each has a timer or is empty, and those that have one are the timers in the order of their arrival. No
-- public clause cites this module.
use Rattle.lwp_types.specs.Counts.{timers_of}
use Rattle.lwp_types.specs.State.{passes}
use Rattle.lwp_types.specs.declared.rows.TimerRow.{TimerRow}
use Rattle.std.specs.List.{filter}
use Rattle.std.specs.Prelude.{Bool, List, None, Option, Some, [], if◌then◌else◌, is_some, option_map, slice_index_or, slice_set, suc, ℕ, ◌++◌, ◌∷◌, ◌≤◌}
use Rattle.lists.specs.Living.{living}

-- the place of the first that passes
abbrev pub first_of : {A : Type 0} → (A → Bool) → List (Option A) → Option ℕ
first_of p [] = None
first_of p (leaf ∷ leaves) = if passes p leaf then Some 0 else option_map suc (first_of p leaves)

-- what the leaf has
abbrev pub leaf_at : List (Option TimerRow) → ℕ → Option TimerRow
leaf_at leaves i = slice_index_or leaves i None

-- no tick is so late
abbrev pub never : ℕ
never = 18446744073709551615

-- the tick of a leaf
abbrev pub due_of : Option TimerRow → ℕ
due_of None = never
due_of (Some row) = row.due

-- nobody has two timers
abbrev pub IsOnce : List (Option TimerRow) → Type 0
IsOnce leaves = (t : ℕ) → timers_of (living leaves) t ≤ 1

-- what a contract sees of the leaves: there are so many at most
pub record Shelved : Type 0 where
  pub leaves : List (Option TimerRow)
  pub width : ℕ

-- no leaf
abbrev pub bare : Shelved
bare = record { leaves = []; width = 0 }

-- a leaf with a timer
abbrev pub timer_leaf : ℕ → ℕ → Option TimerRow
timer_leaf t due = Some (record { tid = t; due = due })

-- one leaf more, the last
abbrev pub with_leaf : Shelved → ℕ → ℕ → Shelved
with_leaf s t due = record s { leaves = s.leaves ++ timer_leaf t due ∷ [] }

-- the leaf is empty
abbrev pub after_take : Shelved → ℕ → Shelved
after_take s i = record s { leaves = slice_set s.leaves i None }

-- the empty leaves are gone
abbrev pub after_pack : Shelved → Shelved
after_pack s = record s { leaves = filter is_some s.leaves }
