-- The lines of a script by the places of their posts.
use Rattle.event_gate.specs.Shelves.{Shelf, Shelves}
use Rattle.lwp_types.specs.declared.call.Line.{Line}
use Rattle.std.specs.Prelude.{List, [], map, slice_index_or, ℕ}

-- a line that nobody posted
abbrev pub no_line : Line
no_line = record { client = 0; seq = 0; text = [] }

-- the line at a place; past the last, one that nobody posted
abbrev pub line_at : List Line → ℕ → Line
line_at lines place = slice_index_or lines place no_line

-- the lines of one event, by the places of its posts
abbrev pub shelf_by : List Line → Shelf ℕ → Shelf Line
shelf_by lines p = record { taken = map (line_at lines) p.taken; left = map (line_at lines) p.left }

-- the lines of each event
abbrev pub shelves_by : List Line → List (Shelf ℕ) → Shelves
shelves_by lines places = map (shelf_by lines) places
