-- Numbers and words, read back.
use Rattle.std.proofs.Common.{◌≡◌, ℕ, suc, ◌+◌, ◌-◌, ◌*◌, ◌^◌, ◌<◌, ◌≤◌, false, List, [], ◌∷◌, length, drop, get_or, arith, drop-cons, ap, refl, None}
use Rattle.std.proofs.lemmas.Bool.{le-ltb}
use Rattle.std.proofs.lemmas.List.{length-drop}
use Rattle.trace_lines.specs.Words.{starts, value_after, value_of}

-- digits after a number never make it smaller
pub value_ge : (n : ℕ) (ds : List ℕ) → n ≤ value_after n ds
value_ge n [] = omega arith
value_ge n (d ∷ ds) = omega (arith, value_ge (10 * n + (d - 48)) ds)

too_large : (ds : List ℕ) → 2 ^ 64 ≤ value_after 0 ds → None ≡ value_of ds
too_large [] big = refl
too_large (d ∷ ds) big = rw (le-ltb (value_after 0 (d ∷ ds)) (2 ^ 64) big) refl

pub value_of_too_large : (n i : ℕ) (ds : List ℕ) → i < length ds → value_after n (drop i ds) ≡ value_after 0 ds
    → 2 ^ 64 ≤ 10 * n + (get_or ds i 0 - 48) → None ≡ value_of ds
value_of_too_large n i ds lt e big =
    let step : value_after n (drop i ds) ≡ value_after (10 * n + (get_or ds i 0 - 48)) (drop (suc i) ds) = ap (value_after n) (drop-cons ds i 0 lt) in
    too_large ds (omega (arith, value_ge (10 * n + (get_or ds i 0 - 48)) (drop (suc i) ds)))

-- a line that has ended has nothing more in front
starts_ended : (front line : List ℕ) → 0 < length front → length line ≤ 0 → starts front line ≡ false
starts_ended [] line some none = absurd (omega arith)
starts_ended (p ∷ ps) [] some none = refl
starts_ended (p ∷ ps) (b ∷ bs) some none = absurd (omega arith)

pub starts_short : (front line : List ℕ) (i : ℕ) → i < length front → length line ≤ i → starts (drop i front) (drop i line) ≡ false
starts_short front line i lt le = starts_ended (drop i front) (drop i line) (omega (arith, length-drop i front)) (omega (arith, length-drop i line))
