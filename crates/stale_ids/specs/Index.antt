-- How a registry lies in memory: values in slots, and an index from numbers to slots.
use Rattle.std.specs.Prelude.{◌≡◌, ◌≢◌, ℕ, ◌<◌, ◌≤◌, List, [], ◌∷◌, length, Option, Some, None, is_some, IsSome, count_by, slice_index_or}
use Rattle.std.specs.List.{AllByRecursion}
use Rattle.stale_ids.specs.declared.index.Place.{Place}

-- f was born after e, and isn't kept in the same slot
pub record IsLater (e f : Place) : Type 0 where
  pub number : e.number < f.number
  pub slot : f.slot ≢ e.slot

-- the places stand in the order of their births
abbrev pub IsRising : List Place → Type 0
IsRising [] = Unit {0}
IsRising (e ∷ es) = AllByRecursion (IsLater e) es × IsRising es

-- the index doesn't know n
abbrev pub IsAbsent : ℕ → List Place → Type 0
IsAbsent n es = AllByRecursion (λ e. e.number ≢ n) es

-- the index has n at i
pub record IsAt (n : ℕ) (es : List Place) (i : ℕ) : Type 0 where
  pub within : i < length es
  pub here : (d : Place) → (slice_index_or es i d).number ≡ n

module _ {T : Type 0} where
  -- n's pair, if its slot is full, and then the others
  abbrev pub onto : ℕ → Option T → List (ℕ × T) → List (ℕ × T)
  onto n None ps = ps
  onto n (Some value) ps = (n, value) ∷ ps

  -- the numbers of the index with their values
  abbrev pub pairs : List (Option T) → List Place → List (ℕ × T)
  pairs slots [] = []
  pairs slots (e ∷ es) = onto e.number (slice_index_or slots e.slot None) (pairs slots es)

  -- every slot that the index names is full
  abbrev pub AreFull : List (Option T) → List Place → Type 0
  AreFull slots es = AllByRecursion (λ e. IsSome (slice_index_or slots e.slot None)) es

  -- slots, index and counts belong together, and both lists have the room that was asked for
  pub record IsSound (slots : List (Option T)) (capacity : ℕ) (es : List Place)
      (room births limit places : ℕ) : Type 0 where
    pub rising : IsRising es
    pub full : AreFull slots es
    pub born : AllByRecursion (λ e. e.number < births) es
    pub counted : count_by is_some slots ≡ length es
    pub births_fit : births ≤ limit
    pub live_fit : length es ≤ places
    pub values_fit : places ≤ capacity
    pub places_fit : places ≤ room
