-- What is said of the ends of a program's sessions.
use Rattle.lwp_explore.specs.Cores.{World, after, first_core}
use Rattle.lwp_explore.specs.KindCodes.{kind_code}
use Rattle.lwp_explore.specs.KindText.{is_bad, kind_name}
use Rattle.lwp_explore.specs.Kinds.{IsOfKind}
use Rattle.lwp_explore.specs.Ways.{length_text, way}
use Rattle.lwp_explore.specs.declared.ending.Ending.{Ending}
use Rattle.lwp_explore.specs.declared.ending.Ending.TheVariants as ending
use Rattle.lwp_explore.specs.declared.kinds.End.{End}
use Rattle.lwp_explore.specs.declared.kinds.End.TheVariants as end
use Rattle.lwp_explore.specs.declared.kinds.Kind.{Kind}
use Rattle.search.specs.Found.{Has, HasBefore, IsDistinct}
use Rattle.search.specs.Moves.{walk}
use Rattle.search.specs.Paths.{IsBefore}
use Rattle.session_cores.specs.Core.{Core}
use Rattle.state_text.specs.Text.{thread_words}
use Rattle.state_text.specs.Waiting.{cycles}
use Rattle.std.specs.List.{count_by, filter, flat_map, list_any, position, sum_by}
use Rattle.std.specs.Option.{option_map_or}
use Rattle.std.specs.Prelude.{Bool, List, None, Option, Some, [], codes, decimal, false, if◌then◌else◌, length}
use Rattle.std.specs.Prelude.{not, slice_get, true, unwrap_or, ℕ, ◌++◌, ◌==◌, ◌∷◌, ◌≡◌, ◌≤◌}

-- ---- what a search finds

-- cores in the order in which they were found, the path to each and its kind; how many steps were tried; and whether these are all
pub record Searched (B : Type 0) : Type 0 where
  pub cores : List (Core B)
  pub paths : List (List ℕ)
  pub kinds : List (Option Kind)
  pub tried : ℕ
  pub whole : Bool

-- this is right, with so many cores at most
pub record IsSearched {B : Type 0} (world : World B) (limit : ℕ) (found : Searched B) : Type 0 where
  pub paths : length found.paths ≡ length found.cores
  pub kinds : length found.kinds ≡ length found.cores
  -- each path leads to its core
  pub sound : (at : ℕ) (path : List ℕ) (core : Core B) → slice_get found.paths at ≡ Some path → slice_get found.cores at ≡ Some core
      → walk (after world) (first_core world) path ≡ Some core
  -- and to what a path before it leads was found before
  pub nearest : (at : ℕ) (path other : List ℕ) (core : Core B) → slice_get found.paths at ≡ Some path
      → walk (after world) (first_core world) other ≡ Some core → IsBefore other path → HasBefore at found.cores core
  -- each core once
  pub distinct : IsDistinct found.cores
  -- they are all cores to which steps lead, or there are more than the limit
  pub all : found.whole ≡ true → (path : List ℕ) (core : Core B) → walk (after world) (first_core world) path ≡ Some core → Has found.cores core
  pub few : length found.cores ≤ limit
  pub full : found.whole ≡ false → length found.cores ≡ limit
  pub more : found.whole ≡ false → (path : List ℕ) × (core : Core B) × (walk (after world) (first_core world) path ≡ Some core)
      × (Has found.cores core → ⊥)
  pub tried : found.tried ≡ sum_by (λ core. length (after world core)) found.cores
  -- each has its kind; of a cut search some that are endless may not be known to be
  pub are : (at : ℕ) (core : Core B) (kind : Kind) → slice_get found.cores at ≡ Some core → slice_get found.kinds at ≡ Some (Some kind)
      → IsOfKind world core kind
  pub told : (at : ℕ) (core : Core B) (kind : Kind) → slice_get found.cores at ≡ Some core → IsOfKind world core kind
      → (kind.end ≡ end.Endless → found.whole ≡ true) → slice_get found.kinds at ≡ Some (Some kind)

-- ---- its kinds

abbrev pub is_kind : Kind → Kind → Bool
is_kind a b = kind_code a == kind_code b

-- a core of this kind
abbrev pub has_kind : Kind → Option Kind → Bool
has_kind kind o = option_map_or (is_kind kind) o false

-- the kinds, each where it comes first
abbrev pub kinds_in : List (Option Kind) → List Kind
kinds_in [] = []
kinds_in (None ∷ kinds) = kinds_in kinds
kinds_in (Some kind ∷ kinds) = kind ∷ filter (λ other. not (is_kind kind other)) (kinds_in kinds)

-- ---- as a text

-- the deadlocks of a core where nobody may run
abbrev pub cycles_text : {B : Type 0} → End → Core B → List ℕ
cycles_text (end.Ended status) core = []
cycles_text end.Stuck core = flat_map (λ threads. codes ", cycle" ++ thread_words threads) (cycles core.pod.state)
cycles_text end.Endless core = []

-- the line of a kind with so many cores, by the path to the first and that core: how long the way is, and who is in a deadlock there
abbrev pub line_of : {B : Type 0} → World B → Kind → ℕ → List ℕ → Core B → List ℕ
line_of world kind count path core = kind_name kind ++ (codes ": " ++ (decimal count ++ (codes " cores, "
    ++ (length_text (way world path) ++ (cycles_text kind.end core ++ 10 ∷ [])))))

-- where the first core of a kind is
abbrev pub first_of : {B : Type 0} → Searched B → Kind → ℕ
first_of found kind = unwrap_or (position (has_kind kind) found.kinds) 0

-- the line of a kind
abbrev pub kind_line : {B : Type 0} → World B → Searched B → Kind → List ℕ
kind_line world found kind = line_of world kind (count_by (has_kind kind) found.kinds)
    (unwrap_or (slice_get found.paths (first_of found kind)) []) (unwrap_or (slice_get found.cores (first_of found kind)) (first_core world))

-- how many cores there are, how many steps were tried, and whether these are all
abbrev pub counts_text : ℕ → ℕ → Bool → List ℕ
counts_text cores tried whole = codes "states " ++ (decimal cores ++ (codes " steps " ++ (decimal tried
    ++ (if whole then codes " whole\n" else codes " cut\n"))))

-- all that is said
abbrev pub ends_text : {B : Type 0} → World B → Searched B → List ℕ
ends_text world found = counts_text (length found.cores) found.tried found.whole ++ flat_map (kind_line world found) (kinds_in found.kinds)

-- ---- what that comes to

-- some end is not well; or else the search was cut, or it was not
abbrev pub ends_by : List Kind → Bool → Ending
ends_by kinds whole = if list_any is_bad kinds then ending.Told else if whole then ending.Well else ending.Cut

-- the text, and what it comes to, of a right search with so many cores at most
pub record EndsSay {B : Type 0} (world : World B) (limit : ℕ) (text : List ℕ) (ending : Ending) : Type 0 where
  pub found : Searched B
  pub right : IsSearched world limit found
  pub said : text ≡ ends_text world found
  pub ends : ending ≡ ends_by (kinds_in found.kinds) found.whole
