-- Takes by their rows and texts.
use Rattle.pod_runner.specs.declared.session.Took.{Took}
use Rattle.pod_runner.specs.declared.take_list.TakeRow.{TakeRow}
use Rattle.std.specs.Prelude.{Bool, List, [], ℕ, ◌==◌, ◌∷◌}

-- a take, with its text
abbrev pub take_of : TakeRow → List ℕ → Took
take_of row text = record {
  turn = row.turn;
  line = record { client = row.client; seq = row.seq; text = text };
  event = row.event;
}

-- the takes of these rows, whose texts are these
abbrev pub takes_of : List TakeRow → List (List ℕ) → List Took
takes_of [] texts = []
takes_of (row ∷ rows) [] = []
takes_of (row ∷ rows) (text ∷ texts) = take_of row text ∷ takes_of rows texts

-- a row of a line of client c
abbrev pub is_of : ℕ → TakeRow → Bool
is_of c row = row.client == c
