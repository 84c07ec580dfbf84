-- What the clients of a script post, client by client, and how much of it is left.
use Rattle.event_gate.specs.History.{lines_of}
use Rattle.event_gate.specs.Port.{of}
use Rattle.script_session.specs.History.{pairs_of}
use Rattle.lwp_types.specs.declared.call.Line.{Line}
use Rattle.pod_runner.specs.declared.session.Took.{Took}
use Rattle.std.specs.Prelude.{List, [], length, map, ℕ, ◌+◌, ◌-◌, ◌∷◌}

-- the texts of a client's lines, in order
abbrev pub texts_for : ℕ → List Line → List (List ℕ)
texts_for c posts = map (λ (line : Line). line.text) (of c posts)

-- those of each client, counted from c
abbrev pub texts_from : ℕ → List ℕ → List Line → List (List (List ℕ))
texts_from c [] posts = []
texts_from c (event ∷ clients) posts = texts_for c posts ∷ texts_from (c + 1) clients posts

-- how many of these takes are a client's
abbrev pub count_taken : ℕ → List Took → ℕ
count_taken c takes = length (of c (lines_of (pairs_of takes)))

-- how many of these texts are left of each client after these takes, counted from c
abbrev pub counts_of : ℕ → List (List (List ℕ)) → List Took → List ℕ
counts_of c [] takes = []
counts_of c (texts ∷ all) takes = (length texts - count_taken c takes) ∷ counts_of (c + 1) all takes
