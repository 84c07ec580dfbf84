-- What a line says.
use Rattle.batch.specs.Parts.{value_at_most, value_from}
use Rattle.std.proofs.Common.{Bool, List, None, [], ap, arith, drop, drop-cons, false, get_or, leb, length, refl, suc, true, ℕ, ◌&&◌, ◌*◌, ◌+◌, ◌-◌}
use Rattle.std.proofs.Common.{◌<◌, ◌∷◌, ◌≡◌, ◌≤◌}
use Rattle.std.proofs.lemmas.Bool.{lt-leb}
use Rattle.std.specs.Str.{all_ascii_digits}

-- after a number, digits never make it smaller
pub value_ge : (n : ℕ) (ds : List ℕ) → n ≤ value_from n ds
value_ge n [] = omega arith
value_ge n (d ∷ ds) = omega (arith, value_ge (10 * n + (d - 48)) ds)

and_false : (a : Bool) → (a && false) ≡ false
and_false true = refl
and_false false = refl

-- digits that are worth too much already have no value
pub too_large : (n i : ℕ) (ds : List ℕ) → i < length ds → value_from n (drop i ds) ≡ value_from 0 ds
    → 16777216 < 10 * n + (get_or ds i 0 - 48) → None ≡ value_at_most ds
too_large n i ds lt e big =
    let step : value_from n (drop i ds) ≡ value_from (10 * n + (get_or ds i 0 - 48)) (drop (suc i) ds) = ap (value_from n) (drop-cons ds i 0 lt) in
    let all : 16777216 < value_from 0 ds = omega (arith, e, step, big, value_ge (10 * n + (get_or ds i 0 - 48)) (drop (suc i) ds)) in
    let f : leb (value_from 0 ds) 16777216 ≡ false = lt-leb _ _ all in
    rw (f, and_false (all_ascii_digits ds)) refl
