-- A tree of the least of many numbers. No public clause cites this module.
use Rattle.std.specs.Prelude.{List, None, Option, Some, [], if◌then◌else◌, length, min, nat_le, option_map}
use Rattle.std.specs.Prelude.{slice_index_or, suc, zero, ℕ, ◌*◌, ◌+◌, ◌<◌, ◌∷◌, ◌≡◌, ◌≤◌}

-- the place of the first number that is at most this
abbrev pub first_within : ℕ → List ℕ → Option ℕ
first_within most [] = None
first_within most (x ∷ xs) = if nat_le x most then Some 0 else option_map suc (first_within most xs)

-- the least of these numbers, each of which a u64 can be
abbrev pub least : List ℕ → ℕ
least [] = 18446744073709551615
least (x ∷ xs) = min x (least xs)

-- a node's number
abbrev pub node : List ℕ → ℕ → ℕ
node nodes i = slice_index_or nodes i 0

-- the first leaf under a node that stands so high over the leaves
abbrev pub leaf_under : ℕ → ℕ → ℕ
leaf_under zero i = i
leaf_under (suc k) i = leaf_under k (2 * i)

-- the node has the lesser number of the two below it
abbrev pub IsLesser : List ℕ → ℕ → Type 0
IsLesser nodes i = node nodes i ≡ min (node nodes (2 * i)) (node nodes (2 * i + 1))

-- each node over the leaves has
abbrev pub IsMended : List ℕ → ℕ → Type 0
IsMended nodes width = (i : ℕ) → 1 ≤ i → i < width → IsLesser nodes i

-- node 1 stands over all others, and the last half are leaves
pub record IsTree (nodes : List ℕ) (width height : ℕ) : Type 0 where
  pub halves : length nodes ≡ 2 * width
  pub mended : IsMended nodes width
  pub full : 1 ≤ width → width ≡ leaf_under height 1
