-- What was taken and what is left of the lines that clients post.
use Rattle.lwp_types.specs.declared.call.Line.{Line}
use Rattle.event_gate.specs.Port.{IsNumbered, of}
use Rattle.event_gate.specs.Shelves.{Shelves, after_take_from, event_of, full_shelves, lines_for, shelf_of}
use Rattle.std.specs.Prelude.{All, ℕ, List, ◌++◌, ◌<◌, ◌≡◌, length, map}

-- the lines of these takes, each of which is an event and a line
abbrev pub lines_of : List (ℕ × Line) → List Line
lines_of takes = map (λ t. t.1) takes

-- each take is of its client's event; of each client, the lines taken are numbered from 0, and they and then those left
-- are what it posts
pub record IsClientHistory (events : List ℕ) (posts : List Line) (takes : List (ℕ × Line))
    (left : List Line) : Type 0 where
  pub events_are : All (λ t. event_of events t.1.client ≡ t.0) takes
  pub lines_are : (c : ℕ) → of c (lines_of takes) ++ of c left ≡ of c posts
  pub numbered : (c : ℕ) → IsNumbered 0 (of c (lines_of takes))

-- of each event, the lines taken and then those left are the lines that are for it, in order
abbrev pub IsGateHistory : List ℕ → List Line → Shelves → Type 0
IsGateHistory events posts shelves = (e : ℕ) → e < 256
    → (shelf_of shelves e).taken ++ (shelf_of shelves e).left ≡ lines_for events posts e

-- a gate with all lines in place has this history, and a take of any event keeps it
pub record GatesKeepHistory : Type 0 where
  pub begins : (events : List ℕ) (posts : List Line) → IsGateHistory events posts (full_shelves events posts)
  pub keeps : (events : List ℕ) (posts : List Line) (shelves : Shelves) (e : ℕ)
      → length shelves ≡ 256 → IsGateHistory events posts shelves
      → IsGateHistory events posts (after_take_from shelves e)

-- so of each client, the lines taken of its event and then those left are what it posts, in order
abbrev pub ClientsKeepHistory : Type 0
ClientsKeepHistory = (events : List ℕ) (posts : List Line) (shelves : Shelves) (c : ℕ)
    → event_of events c < 256 → IsGateHistory events posts shelves
    → of c (shelf_of shelves (event_of events c)).taken ++ of c (shelf_of shelves (event_of events c)).left ≡ of c posts
