-- What was taken of the lines of clients, and what is left.
use Rattle.event_gate.specs.Shelves.{Shelf, Shelves}
use Rattle.event_gate.specs.Port.{of}
use Rattle.script_session.specs.declared.session.Taken.{Taken}
use Rattle.lwp_types.specs.declared.call.Line.{Line}
use Rattle.pod_runner.specs.declared.session.Took.{Took}
use Rattle.std.specs.List.{flat_map}
use Rattle.std.specs.Prelude.{List, [], length, map, ℕ, ◌+◌, ◌∷◌}

-- a take, as a session tells it
abbrev pub taken_of : Took → Taken
taken_of took = record {
  turn = took.turn;
  event = took.event;
  client = took.line.client;
  seq = took.line.seq;
  text = took.line.text;
}

-- its event and its line
abbrev pub pair_of : Took → ℕ × Line
pair_of took = (took.event, took.line)

-- the event and the line of each take
abbrev pub pairs_of : List Took → List (ℕ × Line)
pairs_of takes = map pair_of takes

-- the lines left of one event
abbrev pub left_on : Shelf Line → List Line
left_on shelf = shelf.left

-- the lines left of all events
abbrev pub lines_left : Shelves → List Line
lines_left shelves = flat_map left_on shelves

-- how many of these lines each client has, counted from c
abbrev pub counts_from : ℕ → List ℕ → List Line → List ℕ
counts_from c [] left = []
counts_from c (event ∷ clients) left = length (of c left) ∷ counts_from (c + 1) clients left
