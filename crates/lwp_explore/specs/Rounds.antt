-- What the calls from core to core say of the cores of a search.
use Rattle.lwp_explore.specs.Cores.{World}
use Rattle.lwp_explore.specs.Cycles.{IsInCycle}
use Rattle.lwp_explore.specs.Kinds.{IsEndless, only_call}
use Rattle.lwp_explore.specs.Quiet.{quiet_nexts}
use Rattle.lwp_explore.specs.Searching.{moves_of}
use Rattle.search.specs.Found.{Has, HasKinds, HasLasts, IsDistinct, cores_of}
use Rattle.search.specs.declared.found.Row.{Row}
use Rattle.session_cores.specs.Core.{Core}
use Rattle.std.specs.Prelude.{List, Option, Some, length, slice_get, ℕ, ◌≡◌}

-- of a search of a program's sessions, by its rows and where the last steps lead
abbrev pub ForSearches : (B : Type 0) → (World B → List Row → List (Option ℕ) → List (Core B) → Type 0) → Type 0
ForSearches B Holds = (world : World B) (numbers : B → List ℕ) (procs : List (List ℕ)) (sought : Option (List ℕ)) (rows : List Row) (lasts : List (Option ℕ))
    → HasKinds (moves_of world numbers procs sought) rows
    → HasLasts (moves_of world numbers procs sought) (cores_of (moves_of world numbers procs sought) rows) lasts
    → Holds world rows lasts (cores_of (moves_of world numbers procs sought) rows)

-- a core in a cycle of calls is endless
abbrev pub CyclesAreEndless : Type 0 → Type 0
CyclesAreEndless B = ForSearches B (λ world rows lasts cores. (i : ℕ) (core : Core B) → slice_get cores i ≡ Some core
    → IsInCycle (quiet_nexts rows lasts) i → IsEndless world core)

-- and each endless core is in one, if the search went on from every core, has each once, and has every core to which the only call leads
abbrev pub EndlessAreCycles : Type 0 → Type 0
EndlessAreCycles B = ForSearches B (λ world rows lasts cores. length lasts ≡ length cores → length rows ≡ length cores → IsDistinct cores
    → ((from to : Core B) → Has cores from → only_call world from ≡ Some to → Has cores to)
    → (i : ℕ) (core : Core B) → slice_get cores i ≡ Some core → IsEndless world core → IsInCycle (quiet_nexts rows lasts) i)
