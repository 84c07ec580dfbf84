-- The first bytes of what was taken.
use Rattle.std.proofs.Common.{◌≡◌, ℕ, zero, suc, ◌-◌, ◌≤◌, ◌<◌, min, List, [], ◌∷◌, ◌++◌, length, take, refl, ap, arith}

-- the first of the first
pub take_less : {A : Type 0} (m n : ℕ) (xs : List A) → m ≤ n → take m (take n xs) ≡ take m xs
take_less zero n xs h = refl
take_less (suc m) zero xs h = absurd (omega (arith, h))
take_less (suc m) (suc n) [] h = refl
take_less (suc m) (suc n) (x ∷ xs) h = ap (λ ys. x ∷ ys) (take_less m n xs (omega (arith, h)))

-- as many as there are, or as there is room for
take_min : {A : Type 0} (m n : ℕ) (ys : List A) → m ≡ min (length ys) n → take m ys ≡ take n ys
take_min zero zero ys e = refl
take_min zero (suc n) [] e = refl
take_min zero (suc n) (y ∷ ys) e = absurd (omega (arith, e))
take_min (suc m) zero ys e = absurd (omega (arith, e))
take_min (suc m) (suc n) [] e = absurd (omega (arith, e))
take_min (suc m) (suc n) (y ∷ ys) e = ap (λ zs. y ∷ zs) (take_min m n ys (omega (arith, e)))

-- the first, and after them those of more bytes that there is room for
pub kept_and_more : {A : Type 0} (n more : ℕ) (xs ys : List A) → more ≡ min (length ys) (n - length (take n xs))
    → take n xs ++ take more ys ≡ take n (xs ++ ys)
kept_and_more zero more xs ys e = take_min more zero ys (omega (arith, e))
kept_and_more (suc n) more [] ys e = take_min more (suc n) ys (omega (arith, e))
kept_and_more (suc n) more (x ∷ xs) ys e = ap (λ zs. x ∷ zs) (kept_and_more n more xs ys (omega (arith, e)))

-- what a read takes is the first of the bytes, and what it leaves the others
pub read_front : (count size : ℕ) (bytes : List ℕ) → count ≡ min (length bytes) size → 0 < size → (count ≤ length bytes) × (0 < length bytes → 0 < count)
read_front count size bytes e some = (omega (arith, e), λ h. omega (arith, e, some, h))
