-- The numbers of values that others are seen as.
use Rattle.keys.specs.Numbers.{list_numbers}
use Rattle.std.proofs.Common.{List, [], ap, flat_map, map, refl, sym, ℕ, ◌++◌, ◌∷◌, ◌≡◌}
use Rattle.std.proofs.lemmas.List.{length-map}

each_mapped : {A B : Type 0} (f : A → B) (code : B → List ℕ) (xs : List A) → flat_map (λ x. code (f x)) xs ≡ flat_map code (map f xs)
each_mapped f code [] = refl
each_mapped f code (x ∷ xs) = ap (λ l. code (f x) ++ l) (each_mapped f code xs)

pub mapped : {A B : Type 0} (f : A → B) (code : B → List ℕ) (xs : List A) → list_numbers (λ x. code (f x)) xs ≡ list_numbers code (map f xs)
mapped f code xs = λ i. sym (length-map xs f) i ∷ each_mapped f code xs i
