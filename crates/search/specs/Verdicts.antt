-- What a verdict says.
use Rattle.search.specs.Found.{Has, IsDistinct, LeadsOut}
use Rattle.search.specs.Moves.{IsPath, IsReachable, Moves}
use Rattle.search.specs.Paths.{IsBefore}
use Rattle.search.specs.declared.found.Row.{Row}
use Rattle.search.specs.declared.verdicts.Verdict.{Verdict}
use Rattle.search.specs.declared.verdicts.Verdict.TheVariants.{Fails, Passes, Unknown}
use Rattle.std.specs.Prelude.{IsSome, List, None, Some, length, slice_get, ℕ, ◌<◌, ◌≡◌, ◌≤◌}

-- the first so many rows have no kind
abbrev pub HasNoKind : List Row → ℕ → Type 0
HasNoKind rows count = (at : ℕ) (row : Row) → at < count → slice_get rows at ≡ Some row → row.kind ≡ None

-- the row of this number is the first that has a kind
pub record IsFirstOfKind (rows : List Row) (number : ℕ) : Type 0 where
  pub row : Row
  pub there : slice_get rows number ≡ Some row
  pub kind : IsSome row.kind
  pub before : HasNoKind rows number

-- no core that steps lead to has a kind
abbrev pub Holds : {C : Type 0} → Moves C → Type 0
Holds {C} moves = (core : C) → IsReachable moves core → moves.kind core ≡ None

-- these steps lead to a core that has a kind, and no path before them does
pub record IsFailure {C : Type 0} (moves : Moves C) (path : List ℕ) : Type 0 where
  pub core : C
  pub leads : IsPath moves path core
  pub fails : IsSome (moves.kind core)
  pub nearest : (other : List ℕ) (that : C) → IsPath moves other that → IsSome (moves.kind that) → IsBefore other path → ⊥

-- so many cores are reached, and one more; and none of the many has a kind
pub record IsTooMuch {C : Type 0} (moves : Moves C) (limit : ℕ) : Type 0 where
  pub cores : List C
  pub distinct : IsDistinct cores
  pub many : limit ≤ length cores
  pub reached : (core : C) → Has cores core → IsReachable moves core
  pub pass : (core : C) → Has cores core → moves.kind core ≡ None
  pub further : LeadsOut moves cores

-- nothing that is reached has a kind; or this path leads to the nearest that has one; or more than the limit is reached
abbrev pub IsVerdict : {C : Type 0} → Moves C → ℕ → Verdict → Type 0
IsVerdict moves limit Passes = Holds moves
IsVerdict moves limit (Fails path) = IsFailure moves path.items
IsVerdict moves limit Unknown = IsTooMuch moves limit
