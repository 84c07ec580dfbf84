-- A script with the lines that its clients have posted while it ran.
use Rattle.event_gate.specs.Port.{of}
use Rattle.lwp_live.specs.Input.{Standing, counted, post_line}
use Rattle.lwp_live.specs.declared.arrival.Arrival.{Arrival}
use Rattle.script_text.specs.declared.script.Post.{Post}
use Rattle.script_text.specs.declared.script.Script.{Script}
use Rattle.std.specs.List.{filter, flat_map, fold}
use Rattle.std.specs.Prelude.{List, [], eqb, length, map, replicate, ℕ, ◌++◌, ◌∷◌}

-- how many lines of a client a script has
abbrev pub lines_of_client : ℕ → List Post → ℕ
lines_of_client c posts = length (filter (λ (p : Post). eqb p.client c) posts)

-- a script with one line more, the last
abbrev pub with_arrival : Script → Arrival → Script
with_arrival script a = record script {
  posts = script.posts ++ record {
    client = a.client;
    seq = lines_of_client a.client script.posts;
    text = length script.texts;
  } ∷ [];
  texts = script.texts ++ a.text ∷ [];
}

-- a script with these lines after its own
unfoldable pub recorded : Script → List Arrival → Script
recorded script arrivals = fold with_arrival script arrivals

-- its text: that of the script, and a line for each
abbrev pub recorded_text : List ℕ → List Arrival → List ℕ
recorded_text text arrivals = text ++ flat_map post_line arrivals

-- how many lines each client of a script has
abbrev pub counts_in : Script → List ℕ
counts_in script = fold (λ counts (p : Post). counted p.client counts) (replicate (length script.clients) 0) script.posts

-- before the input is read: the script's own lines count, and its text is so long
abbrev pub standing_of : Script → List ℕ → Standing
standing_of script text = record { counts = counts_in script; size = length text; lines = 0 }

-- how many lines each of so many clients has among these
abbrev pub counts_by : ℕ → List Arrival → List ℕ
counts_by clients arrivals = fold (λ counts (a : Arrival). counted a.client counts) (replicate clients 0) arrivals
