-- What one client is told, worked out by hand: the replies to the agents of its event, and the answers to its lines.
use Rattle.line_server.specs.Tables.{line_answers}
use Rattle.pod_runner.specs.Due.{numbers_to}
use Rattle.lwp_serve.specs.Answers.Replies.{answers_of}
use Rattle.std.specs.List.{flat_map}
use Rattle.std.specs.Prelude.{List, [], codes, map, ℕ, ◌++◌, ◌∷◌, ◌≡◌}
use Rattle.worked_rows.specs.LineServer.{reply, requests, text}
use Rattle.worked_rows.specs.Words.{Row}

-- a client of a row is told this in its session
abbrev pub IsToldIn : ℕ → Row → List ℕ → Type 0
IsToldIn client row told = answers_of client row.script row.turns ≡ told

-- lines that are answered so
abbrev pub AreAnswered : List (List ℕ) → List (List ℕ) → Type 0
AreAnswered texts told = line_answers texts ≡ told

-- what each of the three clients of the line server posts, and how it is answered: 39 requests, and then `quit`
abbrev pub texts_of_one : List (List ℕ)
texts_of_one = map text (numbers_to 40)

abbrev pub answers_of_one : List (List ℕ)
answers_of_one = map reply (numbers_to requests) ++ codes "bye" ∷ []

-- texts, each on a line of its own
abbrev pub as_lines : List (List ℕ) → List ℕ
as_lines texts = flat_map (λ text. text ++ codes "\n") texts

-- a client that gets what the other has put, is told that it isn't a command, and quits; what it posts after that
-- isn't answered
abbrev pub texts_of_a : List (List ℕ)
texts_of_a = codes "get k" ∷ codes "what" ∷ codes "quit" ∷ codes "get k" ∷ []

abbrev pub answers_of_a : List (List ℕ)
answers_of_a = codes "none" ∷ codes "bad" ∷ codes "bye" ∷ []

-- the other one
abbrev pub texts_of_b : List (List ℕ)
texts_of_b = codes "put k zz" ∷ codes "quit" ∷ []

abbrev pub answers_of_b : List (List ℕ)
answers_of_b = codes "ok" ∷ codes "bye" ∷ []
