-- Words that are nearly the same.
use Rattle.std.specs.Prelude.{ℕ, Bool, ◌||◌, ◌==◌, List, [], ◌∷◌, Option, Some, None, if◌then◌else◌}
use Rattle.std.specs.Str.{bytes_eq}

-- the word without its first byte
abbrev pub behind_first : List ℕ → List ℕ
behind_first [] = []
behind_first (b ∷ bs) = bs

-- `alike` holds of what is left, where a first byte is changed, put in or left out
abbrev pub is_edited : (List ℕ → List ℕ → Bool) → List ℕ → List ℕ → Bool
is_edited alike v w = alike (behind_first v) (behind_first w) || alike v (behind_first w) || alike (behind_first v) w

-- `is_edited`, from where the words first differ
abbrev pub is_edited_once : (List ℕ → List ℕ → Bool) → List ℕ → List ℕ → Bool
is_edited_once alike [] w = is_edited alike [] w
is_edited_once alike (b ∷ v) [] = is_edited alike (b ∷ v) []
is_edited_once alike (b ∷ v) (c ∷ w) = if b == c then is_edited_once alike v w else is_edited alike (b ∷ v) (c ∷ w)

-- the words are equal, but for one edit at most
abbrev pub one_apart : List ℕ → List ℕ → Bool
one_apart v w = is_edited_once bytes_eq v w

-- the words are equal, but for two edits at most
abbrev pub two_apart : List ℕ → List ℕ → Bool
two_apart v w = is_edited_once one_apart v w

-- the first of these words that is near
abbrev pub first_near : (List ℕ → Bool) → List (List ℕ) → Option (List ℕ)
first_near near [] = None
first_near near (v ∷ vs) = if near v then Some v else first_near near vs

-- the first answer, or else the second
abbrev pub or_else : {A : Type 0} → Option A → Option A → Option A
or_else None b = b
or_else (Some a) b = Some a

-- the first of these words that is one edit away, or else the first that is two
abbrev pub nearest : List (List ℕ) → List ℕ → Option (List ℕ)
nearest words w = or_else (first_near (λ v. one_apart v w) words) (first_near (λ v. two_apart v w) words)
