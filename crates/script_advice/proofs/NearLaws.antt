-- The first names of a list, one after the other.
use Rattle.std.proofs.Common.{List, [], ap, arith, drop, length, refl, suc, take, zero, ℕ, ◌+◌, ◌<◌, ◌≤◌, ◌∙◌, ◌∷◌, ◌≡◌}
use Rattle.std.specs.Prelude.{min}
use Rattle.lists.specs.Texts.{text_at}

name_there : (n : ℕ) (names : List (List ℕ)) (i : ℕ) → i < n → i < length names → drop i (take n names) ≡ text_at names i ∷ drop (suc i) (take n names)
name_there zero names i few some = absurd (omega (arith, few))
name_there (suc n) [] i few some = absurd (omega (arith, some))
name_there (suc n) (x ∷ names) zero few some = refl
name_there (suc n) (x ∷ names) (suc i) few some = name_there n names i (omega (arith, few)) (omega (arith, some))

-- the next of the first so many names
pub next_name : (n : ℕ) (names : List (List ℕ)) (i : ℕ) → i < n → i < length names → drop i (take n names) ≡ text_at names i ∷ drop (i + 1) (take n names)
next_name n names i few some = let next : suc i ≡ i + 1 = omega arith in name_there n names i few some ∙ ap (λ k. text_at names i ∷ drop k (take n names)) next

-- none of them is left
pub no_name_left : (n : ℕ) (names : List (List ℕ)) (i : ℕ) → min (length names) n ≤ i → drop i (take n names) ≡ []
no_name_left zero names zero all = refl
no_name_left zero names (suc i) all = refl
no_name_left (suc n) [] zero all = refl
no_name_left (suc n) [] (suc i) all = refl
no_name_left (suc n) (x ∷ names) zero all = absurd (omega (arith, all))
no_name_left (suc n) (x ∷ names) (suc i) all = no_name_left n names i (omega (arith, all))
