-- What is put at the front of a buffer.
use Rattle.std.proofs.Common.{◌≡◌, ℕ, zero, suc, ◌+◌, ◌≤◌, min, List, [], ◌∷◌, ◌++◌, length, refl, ap, arith}
use Rattle.std.specs.Prelude.{drop, take}
use Rattle.c_pods.specs.Effects.{put_front}

-- so many as both have
pub by_count : {A : Type 0} (n : ℕ) (xs buffer : List A) → n ≡ min (length xs) (length buffer)
    → take n xs ++ drop n buffer ≡ put_front xs buffer
by_count zero [] buffer e = refl
by_count zero (x ∷ xs) [] e = refl
by_count zero (x ∷ xs) (b ∷ buffer) e = absurd (omega (arith, e))
by_count (suc n) [] buffer e = absurd (omega (arith, e))
by_count (suc n) (x ∷ xs) [] e = absurd (omega (arith, e))
by_count (suc n) (x ∷ xs) (b ∷ buffer) e = ap (λ ys. x ∷ ys) (by_count n xs buffer (omega (arith, e)))

-- nothing is put
pub no_front : {A : Type 0} (xs buffer : List A) → length xs ≡ 0 → put_front xs buffer ≡ buffer
no_front [] buffer e = refl
no_front (x ∷ xs) buffer e = absurd (omega (arith, e))

-- nothing fits into no room
none_fits : {A : Type 0} (xs : List A) → put_front xs [] ≡ []
none_fits [] = refl
none_fits (x ∷ xs) = refl

-- one part, and the other after it
pub two_parts : {A : Type 0} (n : ℕ) (xs ys buffer : List A) → n ≡ min (length xs) (length buffer)
    → take n (put_front xs buffer) ++ put_front ys (drop n (put_front xs buffer)) ≡ put_front (xs ++ ys) buffer
two_parts zero [] ys buffer e = refl
two_parts zero (x ∷ xs) ys [] e = none_fits ys
two_parts zero (x ∷ xs) ys (b ∷ buffer) e = absurd (omega (arith, e))
two_parts (suc n) [] ys buffer e = absurd (omega (arith, e))
two_parts (suc n) (x ∷ xs) ys [] e = absurd (omega (arith, e))
two_parts (suc n) (x ∷ xs) ys (b ∷ buffer) e = ap (λ zs. x ∷ zs) (two_parts n xs ys buffer (omega (arith, e)))
