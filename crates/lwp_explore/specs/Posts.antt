-- Where each client's lines are in a script.
use Rattle.script_text.specs.declared.script.Post.{Post}
use Rattle.std.specs.List.{range_with_len}
use Rattle.std.specs.Prelude.{List, [], if◌then◌else◌, map, ℕ, ◌+◌, ◌==◌, ◌∷◌}

-- the places of client c's posts, counted from k
abbrev pub places_from : ℕ → ℕ → List Post → List ℕ
places_from c k [] = []
places_from c k (post ∷ posts) = if post.client == c then k ∷ places_from c (k + 1) posts else places_from c (k + 1) posts

-- those of each of so many clients
abbrev pub all_places : ℕ → List Post → List (List ℕ)
all_places n posts = map (λ c. places_from c 0 posts) (range_with_len 0 n)
