-- Which cores the rows of a search mean, and what is said of them.
use Rattle.search.specs.Moves.{IsPath, IsReachable, Moves}
use Rattle.search.specs.Paths.{IsBefore}
use Rattle.search.specs.declared.found.Place.{Place}
use Rattle.search.specs.declared.found.Row.{Row}
use Rattle.std.specs.List.{fold}
use Rattle.std.specs.Option.{option_map_or}
use Rattle.std.specs.Prelude.{Bool, List, None, Option, Some, [], false, is_some, length, option_and_then, slice_get, suc, true, unwrap_or, zero, ℕ}
use Rattle.std.specs.Prelude.{◌&&◌, ◌++◌, ◌+◌, ◌-◌, ◌∷◌, ◌≡◌, ◌≤◌, ◌<◌}

-- ---- paths by parents

-- each row but the first has its parent before it
abbrev pub HasParentsBelow : List Row → Type 0
HasParentsBelow rows = (at : ℕ) (row : Row) → slice_get rows (suc at) ≡ Some row → row.parent ≤ at

-- the steps from the first row to this one, going back over so many parents at most
abbrev pub path_over : ℕ → List Row → ℕ → List ℕ
path_over zero rows at = []
path_over (suc n) rows zero = []
path_over (suc n) rows (suc at) = option_map_or (λ row. path_over n rows row.parent ++ row.step ∷ []) (slice_get rows (suc at)) []

-- the steps from the first row to this one
abbrev pub path_of : List Row → ℕ → List ℕ
path_of rows at = path_over at rows at

-- what was found later is no nearer to the first row
abbrev pub IsInOrder : List Row → Type 0
IsInOrder rows = (i j : ℕ) → i ≤ j → j < length rows → length (path_of rows i) ≤ length (path_of rows j)

-- ---- steps

-- this step of this core comes before that step of that core
abbrev pub ComesBefore : ℕ → ℕ → ℕ → ℕ → Type 0
ComesBefore number step other that = (number ≤ other) × (other ≤ number → step < that)

-- the search ended at the first step that is looked for
abbrev pub is_stopped : Bool → Option Place → Bool
is_stopped until marked = until && is_some marked

-- ---- the cores

module _ {C : Type 0} where
  -- a core is at this place among the cores
  abbrev pub Has : List C → C → Type 0
  Has cores core = (at : ℕ) × (slice_get cores at ≡ Some core)

  -- a core is among the first so many
  abbrev pub HasBefore : ℕ → List C → C → Type 0
  HasBefore count cores core = (at : ℕ) × (at < count) × (slice_get cores at ≡ Some core)

  -- where a row's step leads from its parent
  abbrev pub led_to : Moves C → List C → Row → Option C
  led_to moves cores row = option_and_then (λ from. slice_get (moves.after from) row.step) (slice_get cores row.parent)

  -- the cores of one row more; the first row has no parent
  abbrev pub with_row : Moves C → List C → Row → List C
  with_row moves cores row = cores ++ unwrap_or (led_to moves cores row) moves.first ∷ []

  -- the cores of these rows
  abbrev pub cores_of : Moves C → List Row → List C
  cores_of moves rows = fold (with_row moves) [] rows

  -- how many steps lead on from the first so many cores
  abbrev pub steps_from : Moves C → List C → ℕ → ℕ
  steps_from moves cores zero = 0
  steps_from moves cores (suc n) = steps_from moves cores n + option_map_or (λ core. length (moves.after core)) (slice_get cores n) 0

  -- ---- what is said of them

  -- the steps by parents lead to each core
  abbrev pub IsSound : Moves C → List Row → Type 0
  IsSound moves rows = (at : ℕ) (core : C) → slice_get (cores_of moves rows) at ≡ Some core → IsPath moves (path_of rows at) core

  -- to what a path leads that comes before that of a core, was found before that core
  abbrev pub IsFirst : Moves C → List Row → Type 0
  IsFirst moves rows = (at : ℕ) (path : List ℕ) (core : C) → at < length rows → IsPath moves path core → IsBefore path (path_of rows at)
      → HasBefore at (cores_of moves rows) core

  -- no path to a core is shorter than that by parents
  abbrev pub IsShortest : Moves C → List Row → Type 0
  IsShortest moves rows = (at : ℕ) (core : C) (path : List ℕ) → slice_get (cores_of moves rows) at ≡ Some core → IsPath moves path core
      → length (path_of rows at) ≤ length path

  -- each row has the kind of its core
  abbrev pub HasKinds : Moves C → List Row → Type 0
  HasKinds moves rows = (at : ℕ) (row : Row) (core : C) → slice_get rows at ≡ Some row → slice_get (cores_of moves rows) at ≡ Some core
      → row.kind ≡ moves.kind core

  -- no core is there twice
  abbrev pub IsDistinct : List C → Type 0
  IsDistinct cores = (i j : ℕ) (core : C) → slice_get cores i ≡ Some core → slice_get cores j ≡ Some core → i ≡ j

  -- each core that steps lead to is there
  abbrev pub IsComplete : Moves C → List C → Type 0
  IsComplete moves cores = (core : C) → IsReachable moves core → Has cores core

  -- a step leads from one of them to none of them
  pub record LeadsOut (moves : Moves C) (cores : List C) : Type 0 where
    pub from : C
    pub step : ℕ
    pub to : C
    pub inside : Has cores from
    pub leads : slice_get (moves.after from) step ≡ Some to
    pub outside : Has cores to → ⊥

  -- ---- the last steps, where each leads

  -- where the last step from a core leads, if it has a step
  abbrev pub last_step : Moves C → C → Option C
  last_step moves core = slice_get (moves.after core) (length (moves.after core) - 1)

  -- it leads to the core of this number, or to none of them
  abbrev pub IsLast : Moves C → List C → C → Option ℕ → Type 0
  IsLast moves cores core None = (to : C) → last_step moves core ≡ Some to → Has cores to → ⊥
  IsLast moves cores core (Some number) = (to : C) × (last_step moves core ≡ Some to) × (slice_get cores number ≡ Some to)

  -- so it does from each core that was gone from
  abbrev pub HasLasts : Moves C → List C → List (Option ℕ) → Type 0
  HasLasts moves cores lasts = (at : ℕ) (core : C) (last : Option ℕ) → slice_get cores at ≡ Some core → slice_get lasts at ≡ Some last
      → IsLast moves cores core last

  -- ---- the steps that are looked for

  -- none leads on from the cores
  abbrev pub HasNoMark : Moves C → List C → Type 0
  HasNoMark moves cores = (core : C) (step : ℕ) → Has cores core → step < length (moves.after core) → moves.marks core step ≡ false

  -- none comes before this step of the core of this number
  abbrev pub HasNoMarkBefore : Moves C → List C → ℕ → ℕ → Type 0
  HasNoMarkBefore moves cores number step = (i s : ℕ) (core : C) → ComesBefore i s number step → slice_get cores i ≡ Some core
      → s < length (moves.after core) → moves.marks core s ≡ false

  -- this one is the first
  pub record IsFirstMark (moves : Moves C) (cores : List C) (place : Place) : Type 0 where
    pub from : C
    pub there : slice_get cores place.core ≡ Some from
    pub within : place.step < length (moves.after from)
    pub marked : moves.marks from place.step ≡ true
    pub before : HasNoMarkBefore moves cores place.core place.step

  -- no path that ends in one comes before that to the core and this step
  abbrev pub IsNearestMark : Moves C → List Row → Place → Type 0
  IsNearestMark moves rows place = (path : List ℕ) (core : C) (step : ℕ) → IsPath moves path core → step < length (moves.after core)
      → moves.marks core step ≡ true → IsBefore (path ++ step ∷ []) (path_of rows place.core ++ place.step ∷ []) → ⊥
