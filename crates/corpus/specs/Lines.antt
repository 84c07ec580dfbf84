-- The lines of a text, and where two texts differ first.
use Rattle.std.specs.Prelude.{List, [], drop, false, if◌then◌else◌, suc, take, ℕ, bytes_eq, ◌-◌, ◌==◌, ◌∷◌, ◌≡◌, ◌≤◌}

-- a byte in front of the first of these lines
abbrev pub onto_first : ℕ → List (List ℕ) → List (List ℕ)
onto_first b [] = (b ∷ []) ∷ []
onto_first b (l ∷ ls) = (b ∷ l) ∷ ls

-- the lines of a text, each with the newline that ends it; what follows the last newline is a line too, if there
-- is any
abbrev pub lines : List ℕ → List (List ℕ)
lines [] = []
lines (b ∷ bs) = if b == 10 then (b ∷ []) ∷ lines bs else onto_first b (lines bs)

-- how long the first line is
abbrev pub line_end : List ℕ → ℕ
line_end [] = 0
line_end (b ∷ bs) = if b == 10 then 1 else suc (line_end bs)

-- the first of these lines; the empty text, where there is none
abbrev pub first_of : List (List ℕ) → List ℕ
first_of [] = []
first_of (l ∷ ls) = l

-- the line after so many
abbrev pub line_behind : ℕ → List (List ℕ) → List ℕ
line_behind n ls = first_of (drop n ls)

-- this line, counted from 1, is one thing in the one text and another in the other, and all lines before it are the
-- same
pub record IsFirstDifference (number : ℕ) (one other : List ℕ) (found wanted : List (List ℕ)) : Type 0 where
  pub counted : 1 ≤ number
  pub before : take (number - 1) found ≡ take (number - 1) wanted
  pub found_line : one ≡ line_behind (number - 1) found
  pub wanted_line : other ≡ line_behind (number - 1) wanted
  pub other_line : bytes_eq one other ≡ false
