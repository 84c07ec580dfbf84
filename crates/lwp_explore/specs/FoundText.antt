-- What is said of the ends of sessions, by the rows of a search.
use Rattle.lwp_explore.specs.Cores.{World, after, first_core}
use Rattle.lwp_explore.specs.Ends.{ends_by, line_of}
use Rattle.lwp_explore.specs.KindCodes.{code_kind}
use Rattle.lwp_explore.specs.declared.ending.Ending.{Ending}
use Rattle.lwp_explore.specs.declared.listing.Listed.{Listed}
use Rattle.search.specs.Found.{path_of}
use Rattle.search.specs.Moves.{walk}
use Rattle.search.specs.declared.found.Row.{Row}
use Rattle.std.specs.Prelude.{Bool, IsSome, List, length, map, unwrap_or, ℕ, ◌<◌}

-- what the kinds come to
abbrev pub ends_of : List Listed → Bool → Ending
ends_of listed whole = ends_by (map (λ (l : Listed). code_kind l.number) listed) whole

module _ {B : Type 0} (world : World B) where
  -- the line of a kind, by a path to the first of so many cores
  abbrev pub path_line : ℕ → ℕ → List ℕ → List ℕ
  path_line number count path = line_of world (code_kind number) count path (unwrap_or (walk (after world) (first_core world) path) (first_core world))

  -- the line of a kind that is listed
  abbrev pub listed_line : List Row → Listed → List ℕ
  listed_line rows l = path_line l.number l.cores (path_of rows l.first)

  -- steps lead along the path to the first core of a kind
  abbrev pub IsReached : List Row → Listed → Type 0
  IsReached rows l = (l.first < length rows) × IsSome (walk (after world) (first_core world) (path_of rows l.first))
