-- Numbers by two digits.
use Rattle.std.specs.Prelude.{List, [], suc, zero, ℕ, ◌+◌, ◌/◌, ◌%◌, ◌∷◌}

-- a number below 100 by two digits, of which the first may be 0
abbrev pub pair_of : ℕ → List ℕ
pair_of n = (48 + n / 10) ∷ (48 + n % 10) ∷ []

-- so many numbers in a row, from k on, by two digits each
abbrev pub pairs_from : ℕ → ℕ → List (List ℕ)
pairs_from k zero = []
pairs_from k (suc count) = pair_of k ∷ pairs_from (k + 1) count
