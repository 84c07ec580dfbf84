-- Counts.
use Rattle.std.proofs.Common.{ap, arith, length, List, refl, ℕ, suc, zero, ◌+◌, ◌≡◌, ◌≤◌, ◌<◌, ◌∷◌, []}
use Rattle.std.specs.Prelude.{slice_index_or, slice_set}
use Rattle.script_text.specs.Meaning.{after_raise}

pub raised_there : (c v : ℕ) (xs : List ℕ) → c < length xs → v ≡ slice_index_or xs c v → slice_set xs c (v + 1) ≡ after_raise c xs
raised_there c v [] h e = absurd (omega (arith, h))
raised_there zero v (x ∷ xs) h e = ap (λ n. n ∷ xs) (omega (arith, e))
raised_there (suc c) v (x ∷ xs) h e = ap (λ l. x ∷ l) (raised_there c v xs (omega (arith, h)) e)

pub raised_past : (c : ℕ) (xs : List ℕ) → length xs ≤ c → xs ≡ after_raise c xs
raised_past c [] h = refl
raised_past zero (x ∷ xs) h = absurd (omega (arith, h))
raised_past (suc c) (x ∷ xs) h = ap (λ l. x ∷ l) (raised_past c xs (omega (arith, h)))
