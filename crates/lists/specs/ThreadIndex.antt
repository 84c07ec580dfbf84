-- The index from threads to places.
use Rattle.std.specs.List.{AllByRecursion, filter, find}
use Rattle.std.specs.Prelude.{bit_and, Bool, IfSome, List, None, Option, Some, [], if◌then◌else◌, length, not, option_map, slice_index_or, ℕ, ◌+◌}
use Rattle.std.specs.Prelude.{◌<◌, ◌==◌, ◌∷◌, ◌≡◌, ◌≢◌, ◌≤◌}
use Rattle.lists.specs.Living.{living}
use Rattle.lists.specs.declared.thread_index.Entry.{Entry}

-- the entry is of thread t
abbrev pub is_entry_of : ℕ → Entry → Bool
is_entry_of t e = e.number == t

-- the place of thread t among these entries
abbrev pub place_in : List Entry → ℕ → Option ℕ
place_in es t = option_map (λ e. e.place) (find (is_entry_of t) es)

-- which cell is that of a number: its bits under the mask say so
abbrev pub home : ℕ → ℕ → ℕ
home mask n = bit_and n mask

-- each number has a cell, if there are any
abbrev pub IsMask : ℕ → List (Option Entry) → Type 0
IsMask mask cells = 1 ≤ length cells → mask < length cells

-- what is in the cell of a number
abbrev pub cell_in : List (Option Entry) → ℕ → ℕ → Option Entry
cell_in cells mask n = slice_index_or cells (home mask n) None

-- the place of thread t by its cell, and else this
abbrev pub place_or : ℕ → Option ℕ → Option Entry → Option ℕ
place_or t other None = other
place_or t other (Some e) = if is_entry_of t e then Some e.place else other

-- what a contract sees of an index
pub record Found : Type 0 where
  -- each entry in the cell of its number, as long as no other stands there
  pub cells : List (Option Entry)
  pub mask : ℕ
  -- those whose cell another had
  pub strays : List Entry
  -- how many strays there can be without asking for memory
  pub room : ℕ

-- the place of thread t: by its cell, and else among the strays
abbrev pub place_of : Found → ℕ → Option ℕ
place_of f t = place_or t (place_in f.strays t) (cell_in f.cells f.mask t)

-- how many have a place
abbrev pub count_of : Found → ℕ
count_of f = length (living f.cells) + length f.strays

-- how many cells there are
abbrev pub width_of : Found → ℕ
width_of f = length f.cells

-- one entry is written
pub record Puts (old new : ℕ → Option ℕ) (n : ℕ) (place : Option ℕ) : Type 0 where
  pub here : new n ≡ place
  pub others : (m : ℕ) → m ≢ n → new m ≡ old m

-- nobody has a place
pub record IsEmpty (f : Found) : Type 0 where
  pub nobody : (t : ℕ) → place_of f t ≡ None
  pub none : count_of f ≡ 0

-- ---- the strays

-- the entries but those of thread n
abbrev pub without_entry : ℕ → List Entry → List Entry
without_entry n es = filter (λ e. not (is_entry_of n e)) es

-- each number is greater than those before it
abbrev pub IsRising : List Entry → Type 0
IsRising [] = Unit {0}
IsRising (e ∷ es) = AllByRecursion (λ f. e.number < f.number) es × IsRising es

-- no entry has this number
abbrev pub IsAbsent : ℕ → List Entry → Type 0
IsAbsent n es = AllByRecursion (λ e. e.number ≢ n) es

-- the entry there has this number
pub record IsAt (n : ℕ) (es : List Entry) (i : ℕ) : Type 0 where
  pub within : i < length es
  pub here : (d : Entry) → (slice_index_or es i d).number ≡ n

-- the entries before this place are below the number, and the others above it
pub record IsGapAt (n : ℕ) (es : List Entry) (i : ℕ) : Type 0 where
  pub within : i ≤ length es
  pub below : (j : ℕ) (d : Entry) → j < i → (slice_index_or es j d).number < n
  pub above : (j : ℕ) (d : Entry) → i ≤ j → j < length es → n < (slice_index_or es j d).number

-- what a read past the entries gives
abbrev pub no_entry : Entry
no_entry = record { number = 0; place = 0 }

-- ---- both

-- the entry stands in the cell of its number, and not among the strays
pub record IsHome (mask : ℕ) (strays : List Entry) (i : ℕ) (e : Entry) : Type 0 where
  pub cell : home mask e.number ≡ i
  pub alone : place_in strays e.number ≡ None

-- the strays rise, and each cell has an entry of its own or none
pub record IsIndexed (cells : List (Option Entry)) (mask : ℕ) (strays : List Entry) : Type 0 where
  pub masked : IsMask mask cells
  pub rising : IsRising strays
  pub homes : (i : ℕ) → IfSome (slice_index_or cells i None) (IsHome mask strays i)

-- an index as it is kept, with so many entries
pub record IsKept (cells : List (Option Entry)) (mask : ℕ) (strays : List Entry) (count : ℕ) : Type 0 where
  pub indexed : IsIndexed cells mask strays
  pub counted : count ≡ length (living cells) + length strays
