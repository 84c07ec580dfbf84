-- What a search knows on its way. No public clause cites this module.
use Rattle.search.specs.Found.{ComesBefore, Has, HasKinds, HasNoMarkBefore, HasParentsBelow, IsDistinct, IsFirstMark, IsLast, LeadsOut, cores_of, led_to}
use Rattle.search.specs.Found.{steps_from}
use Rattle.search.specs.Moves.{Moves}
use Rattle.search.specs.Seen.{number_of}
use Rattle.search.specs.declared.found.Place.{Place}
use Rattle.search.specs.declared.found.Row.{Row}
use Rattle.std.specs.Prelude.{Bool, List, MatchOption, None, Option, Some, [], false, if◌then◌else◌, is_none, length, max, min, slice_get, true, zero, suc, ℕ}
use Rattle.std.specs.Prelude.{◌&&◌, ◌-◌, ◌^◌, ◌<◌, ◌≡◌, ◌≤◌, ◌++◌, ◌∷◌}
use Rattle.std.proofs.Common.{◌⊎◌}

-- ---- the order of steps: by the number of the core, and then their own

-- this step of this core comes before that step of that core, or it is that step
abbrev pub ComesUpTo : ℕ → ℕ → ℕ → ℕ → Type 0
ComesUpTo number step other that = (number ≤ other) × (other ≤ number → step ≤ that)

-- all rows but the first are of steps before this one
abbrev pub HasRowsUpTo : List Row → ℕ → ℕ → Type 0
HasRowsUpTo rows number step = (at : ℕ) (row : Row) → slice_get rows (suc at) ≡ Some row → ComesBefore row.parent row.step number step

-- a later row is of a later step
abbrev pub HasRowsInOrder : List Row → Type 0
HasRowsInOrder rows = (i j : ℕ) (a b : Row) → i < j → slice_get rows (suc i) ≡ Some a → slice_get rows (suc j) ≡ Some b
    → ComesBefore a.parent a.step b.parent b.step

-- each element of a list stays where it is, and more may follow
abbrev pub Stays : {X : Type 0} → List X → List X → Type 0
Stays {X} old new = (at : ℕ) (x : X) → slice_get old at ≡ Some x → slice_get new at ≡ Some x

-- the first step that is looked for, once this step was tried as well
abbrev pub first_mark : Option Place → Bool → ℕ → ℕ → Option Place
first_mark marked is_marked number step = if is_marked && is_none marked then Some (record { core = number; step = step }) else marked

module _ {C : Type 0} (moves : Moves C) where
  -- the keys that were seen are those of these cores, each with the number of its core
  abbrev pub AreKeysOf : List C → List (List ℕ × ℕ) → Type 0
  AreKeysOf cores seen = (key : List ℕ) → MatchOption (number_of seen key)
      ((at : ℕ) (core : C) → slice_get cores at ≡ Some core → moves.key core ≡ key → ⊥)
      (λ at. (core : C) × (slice_get cores at ≡ Some core) × (moves.key core ≡ key))

  -- a core was found, by no step after this one
  pub record IsFound (rows : List Row) (number step : ℕ) (core : C) : Type 0 where
    pub at : ℕ
    pub there : slice_get (cores_of moves rows) at ≡ Some core
    pub early : (k : ℕ) (row : Row) → at ≡ suc k → slice_get rows at ≡ Some row → ComesUpTo row.parent row.step number step

  -- the core to which this step leads from the core of this number was found
  abbrev pub IsTried : List Row → ℕ → ℕ → Type 0
  IsTried rows number step = (from to : C) → slice_get (cores_of moves rows) number ≡ Some from → slice_get (moves.after from) step ≡ Some to
      → IsFound rows number step to

  -- so were those of all steps before this one
  abbrev pub AreTried : List Row → ℕ → ℕ → Type 0
  AreTried rows number step = (i s : ℕ) → ComesBefore i s number step → IsTried rows i s

  -- the rows are of a tree, their cores are distinct, their keys were seen, and the steps before each row's were tried
  pub record IsKnown (rows : List Row) (seen : List (List ℕ × ℕ)) : Type 0 where
    pub begun : slice_get (cores_of moves rows) zero ≡ Some moves.first
    pub below : HasParentsBelow rows
    pub in_order : HasRowsInOrder rows
    pub led : (at : ℕ) (row : Row) (core : C) → slice_get rows (suc at) ≡ Some row → slice_get (cores_of moves rows) (suc at) ≡ Some core
        → led_to moves (cores_of moves rows) row ≡ Some core
    pub apart : IsDistinct (cores_of moves rows)
    pub keys : AreKeysOf (cores_of moves rows) seen
    pub kinds : HasKinds moves rows
    pub tried : (at : ℕ) (row : Row) → slice_get rows (suc at) ≡ Some row → AreTried rows row.parent row.step

  -- this step of the core of this number is to be tried next
  pub record IsUpTo (rows : List Row) (seen : List (List ℕ × ℕ)) (number step : ℕ) : Type 0 where
    pub known : IsKnown rows seen
    pub latest : HasRowsUpTo rows number step
    pub tried : AreTried rows number step

  -- the rows and their cores stay
  pub record Keeps (old new : List Row) : Type 0 where
    pub rows : Stays old new
    pub cores : Stays (cores_of moves old) (cores_of moves new)

  -- and where there are as many as allowed, no more follow
  pub record Grows (limit : ℕ) (old new : List Row) : Type 0 where
    pub keeps : Keeps old new
    pub stop : limit ≤ length old → new ≡ old

  -- there was no room for a core
  pub record IsCut (rows : List Row) (limit : ℕ) : Type 0 where
    pub out : LeadsOut moves (cores_of moves rows)
    pub full : limit ≤ length rows

  -- the first step that is looked for, of those before this one
  abbrev pub IsMark : List Row → Option Place → ℕ → ℕ → Type 0
  IsMark rows marked number step = MatchOption marked (HasNoMarkBefore moves (cores_of moves rows) number step) (IsFirstMark moves (cores_of moves rows))

  -- what is known once the steps before this one were tried
  pub record Knows (rows : List Row) (seen : List (List ℕ × ℕ)) (whole : Bool) (mark : Option Place) (limit number step : ℕ) : Type 0 where
    pub known : IsKnown rows seen
    pub up_to : whole ≡ true → IsUpTo rows seen number step
    pub cut : whole ≡ false → IsCut rows limit
    pub few : length rows ≤ max 1 limit
    pub marked : IsMark rows mark number step

  -- a step leads to the core of this number, or to one for which there is no room
  abbrev pub LeadsTo : List Row → ℕ → C → ℕ → Option ℕ → Type 0
  LeadsTo rows limit from step None = (limit ≤ length rows) × ((to : C) → slice_get (moves.after from) step ≡ Some to
      → Has (cores_of moves rows) to → ⊥)
  LeadsTo rows limit from step (Some number) = (to : C) × (slice_get (moves.after from) step ≡ Some to)
      × (slice_get (cores_of moves rows) number ≡ Some to)

  -- where the last step from a core leads, and that stays so
  pub record IsSettled (rows : List Row) (limit : ℕ) (core : C) (last : Option ℕ) : Type 0 where
    pub is : IsLast moves (cores_of moves rows) core last
    pub full : last ≡ None → (length (moves.after core) ≡ 0) ⊎ (limit ≤ length rows)

  -- so it is with each core that was gone from
  abbrev pub AreSettled : List Row → ℕ → List (Option ℕ) → Type 0
  AreSettled rows limit lasts = (at : ℕ) (core : C) (last : Option ℕ) → slice_get (cores_of moves rows) at ≡ Some core
      → slice_get lasts at ≡ Some last → IsSettled rows limit core last

  -- so it is with one core more
  pub record Settles (rows : List Row) (limit : ℕ) (old new : List (Option ℕ)) (core : C) : Type 0 where
    pub last : Option ℕ
    pub lasts : new ≡ old ++ last ∷ []
    pub settled : IsSettled rows limit core last

  -- what holds while the cores are gone through
  pub record Exploring (rows : List Row) (seen : List (List ℕ × ℕ)) (whole : Bool) (mark : Option Place) (lasts : List (Option ℕ))
      (limit at tried : ℕ) : Type 0 where
    pub knows : Knows rows seen whole mark limit at zero
    pub inside : at ≤ length rows
    pub counted : tried ≡ min (steps_from moves (cores_of moves rows) at) (2 ^ 64 - 1)
    pub settled : AreSettled rows limit lasts
    pub gone : length lasts ≡ at

  -- each of these machines means the same and stands at the core of its number
  abbrev pub AreStanding : {W : Type 0} → (W → Moves C) → (W → C) → List Row → List (ℕ × W) → Type 0
  AreStanding {W} moves_of core_of rows waiting = (at number : ℕ) (w : W) → slice_get waiting at ≡ Some (number, w)
      → (moves_of w ≡ moves) × (slice_get (cores_of moves rows) number ≡ Some (core_of w))

-- this one may have joined them
abbrev pub MayJoin : {X : Type 0} → List X → List X → X → Type 0
MayJoin old new x = (new ≡ old) ⊎ (new ≡ old ++ x ∷ [])

-- the first of them may have gone
abbrev pub AreOf : {X : Type 0} → List X → List X → Type 0
AreOf {X} old new = (at : ℕ) (x : X) → slice_get new at ≡ Some x → (i : ℕ) × (slice_get old i ≡ Some x)
