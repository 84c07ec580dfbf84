-- The numbers of names.
use Rattle.std.specs.Prelude.{ℕ, suc, ◌≡◌, List, [], ◌∷◌, Option, None, Some, if◌then◌else◌, option_map}
use Rattle.std.specs.Str.{bytes_eq}
use Rattle.script_text.specs.WordIndex.{Numbered, number_of}

-- a name's number, if it is one of these
abbrev pub place_in : List (List ℕ) → List ℕ → Option ℕ
place_in [] w = None
place_in (n ∷ ns) w = if bytes_eq n w then Some 0 else option_map suc (place_in ns w)

-- the index has the number of each name, and of no other word
abbrev pub IsIndexed : List (List ℕ) → Numbered → Type 0
IsIndexed names index = (w : List ℕ) → number_of index w ≡ place_in names w
