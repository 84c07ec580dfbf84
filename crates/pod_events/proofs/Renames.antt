-- A list in which each element is put in its place again, changed, one after the other.
use Rattle.std.proofs.Common.{List, [], ap, arith, drop, length, map, refl, slice_index_or, slice_set, suc, sym, take, zero, ℕ, ◌++◌, ◌<◌, ◌∷◌, ◌≡◌}

-- the elements before place i are changed
abbrev pub changed_to : {X : Type 0} → (X → X) → ℕ → List X → List X
changed_to f i xs = map f (take i xs) ++ drop i xs

-- the entry at place i is as it was
pub unchanged_at : {X : Type 0} (f : X → X) (i : ℕ) (xs : List X) (d : X) → slice_index_or (changed_to f i xs) i d ≡ slice_index_or xs i d
unchanged_at f zero [] d = refl
unchanged_at f zero (x ∷ xs) d = refl
unchanged_at f (suc i) [] d = refl
unchanged_at f (suc i) (x ∷ xs) d = unchanged_at f i xs d

-- it is put there, changed
pub changed_once_more : {X : Type 0} (f : X → X) (i : ℕ) (xs : List X) (d : X) → i < length xs
    → slice_set (changed_to f i xs) i (f (slice_index_or xs i d)) ≡ changed_to f (suc i) xs
changed_once_more f i [] d low = absurd (omega (arith, low))
changed_once_more f zero (x ∷ xs) d low = refl
changed_once_more f (suc i) (x ∷ xs) d low = ap (λ ys. f x ∷ ys) (changed_once_more f i xs d (omega (arith, low)))

-- what no change touches needn't be put there
pub changed_already : {X : Type 0} (f : X → X) (i : ℕ) (xs : List X) (d : X) → i < length xs
    → f (slice_index_or xs i d) ≡ slice_index_or xs i d → changed_to f i xs ≡ changed_to f (suc i) xs
changed_already f i [] d low same = absurd (omega (arith, low))
changed_already f zero (x ∷ xs) d low same = ap (λ y. y ∷ xs) (sym same)
changed_already f (suc i) (x ∷ xs) d low same = ap (λ ys. f x ∷ ys) (changed_already f i xs d (omega (arith, low)) same)
