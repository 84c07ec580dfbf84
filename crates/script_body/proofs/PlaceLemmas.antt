-- Where a number is in two lists, one after the other.
use Rattle.std.proofs.Common.{◌≡◌, ◌<◌, ◌≤◌, ◌+◌, ℕ, List, [], ◌∷◌, ◌++◌, length, arith}
use Rattle.std.proofs.lemmas.Bool.Decides.{nat_tests}
use Rattle.script_text.specs.Script.{place_in}

pub place_in-front : (n : ℕ) (xs ys : List ℕ) → place_in n xs < length xs → place_in n (xs ++ ys) ≡ place_in n xs
place_in-front n [] ys h = absurd (omega arith)
place_in-front n (x ∷ xs) ys h = grind (arith, nat_tests, place_in-front n xs ys)

pub place_in-back : (n : ℕ) (xs ys : List ℕ) → length xs ≤ place_in n xs → place_in n (xs ++ ys) ≡ length xs + place_in n ys
place_in-back n [] ys h = grind arith
place_in-back n (x ∷ xs) ys h = grind (arith, nat_tests, place_in-back n xs ys)
