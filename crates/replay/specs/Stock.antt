-- The lines that the clients of a script have left, by the places of their posts.
use Rattle.event_gate.specs.Port.{of}
use Rattle.lwp_types.specs.declared.call.Line.{Line}
use Rattle.replay.specs.Walk.{ClientsLeft}
use Rattle.script_body.specs.Places.{line_at}
use Rattle.std.specs.Prelude.{List, [], drop, length, map, set, slice_index_or, ℕ, ◌<◌, ◌∷◌, ◌≡◌}

-- all lines, and those left of each client
pub record Stock : Type 0 where
  pub posts : List Line
  pub lines : ClientsLeft

-- the lines of each client, by the places of their posts
abbrev pub lines_by_places : List Line → List (List ℕ) → List (List Line)
lines_by_places posts all = map (λ places. map (line_at posts) places) all

-- one place more of a client, before those that it has
abbrev pub with_place : ℕ → ℕ → List (List ℕ) → List (List ℕ)
with_place client place all = set all client (place ∷ slice_index_or all client [])

-- the first place of a client is gone
abbrev pub without_first : ℕ → List (List ℕ) → List (List ℕ)
without_first client all = set all client (drop 1 (slice_index_or all client []))

-- of the lines from a place on, each client has the places of its own, in order
abbrev pub AreFrom : List Line → ℕ → List (List ℕ) → Type 0
AreFrom posts place all = (c : ℕ) → c < length all
    → map (line_at posts) (slice_index_or all c []) ≡ of c (drop place posts)
