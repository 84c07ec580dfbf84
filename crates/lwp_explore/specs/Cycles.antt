-- Places, each of which leads to one place at most: which are in a cycle.
use Rattle.std.specs.Prelude.{Bool, List, None, Option, Some, length, option_and_then, slice_index_or, suc, zero, true, false, ℕ, ◌<◌, ◌≡◌, ◌≤◌}

-- where a place leads
abbrev pub jump : List (Option ℕ) → ℕ → Option ℕ
jump nexts i = slice_index_or nexts i None

-- where it leads over so many
abbrev pub leap : List (Option ℕ) → ℕ → ℕ → Option ℕ
leap nexts zero i = Some i
leap nexts (suc n) i = option_and_then (leap nexts n) (jump nexts i)

-- it leads back to itself
abbrev pub IsInCycle : List (Option ℕ) → ℕ → Type 0
IsInCycle nexts i = (n : ℕ) × (leap nexts (suc n) i ≡ Some i)

-- they lead to such places only
abbrev pub AreWithin : List (Option ℕ) → Type 0
AreWithin nexts = (i j : ℕ) → jump nexts i ≡ Some j → j < length nexts

-- those are marked to which one of the first so many leads
pub record AreMarked (nexts : List (Option ℕ)) (count : ℕ) (marks : List Bool) : Type 0 where
  pub as_many : length marks ≡ length nexts
  pub sound : (c : ℕ) → slice_index_or marks c false ≡ true → (i : ℕ) × (i < count) × (jump nexts i ≡ Some c)
  pub all : (i c : ℕ) → i < count → jump nexts i ≡ Some c → slice_index_or marks c false ≡ true

-- those in a cycle are marked, and no others
pub record AreCycles (nexts : List (Option ℕ)) (marks : List Bool) : Type 0 where
  pub as_many : length marks ≡ length nexts
  pub sound : (c : ℕ) → slice_index_or marks c false ≡ true → IsInCycle nexts c
  pub all : (c : ℕ) → IsInCycle nexts c → slice_index_or marks c false ≡ true

-- these are where each leads over so many
pub record LeadsOver (nexts : List (Option ℕ)) (far : ℕ) (jumps : List (Option ℕ)) : Type 0 where
  pub some : 1 ≤ far
  pub as_many : length jumps ≡ length nexts
  pub leads : (i : ℕ) → jump jumps i ≡ leap nexts far i

-- over as many as there are, or more
pub record LeadsFar (nexts jumps : List (Option ℕ)) : Type 0 where
  pub far : ℕ
  pub enough : length nexts ≤ far
  pub over : LeadsOver nexts far jumps
