use Rattle.std.proofs.Common.{◌≡◌, ℕ, suc, ◌+◌, ◌-◌, ◌*◌, ◌^◌, ◌<◌, ◌≤◌, Bool, true, false, ◌&&◌, ltb}
use Rattle.std.proofs.Common.{List, [], ◌∷◌, length, get_or, drop, None, refl, ap, arith, drop-cons}
use Rattle.std.specs.Str.{all_ascii_digits}
use Rattle.std.proofs.lemmas.Bool.{le-ltb}
use Rattle.script_lines.specs.Words.{value_after}
use Rattle.lwp_serve.specs.Maker.Order.{long_value_of}
use Rattle.lwp_serve.proofs.maker.order.long_value_of.Goals as goal

-- digits after a number never make it smaller
value_ge : (n : ℕ) (ds : List ℕ) → n ≤ value_after n ds
value_ge n [] = omega arith
value_ge n (d ∷ ds) = omega (arith, value_ge (10 * n + (d - 48)) ds)

and_false : (a : Bool) → (a && false) ≡ false
and_false true = refl
and_false false = refl

too_large : (n i : ℕ) (ds : List ℕ) → i < length ds → value_after n (drop i ds) ≡ value_after 0 ds → 2 ^ 64 ≤ 10 * n + (get_or ds i 0 - 48)
    → None ≡ long_value_of ds
too_large n i ds lt e big =
    let step : value_after n (drop i ds) ≡ value_after (10 * n + (get_or ds i 0 - 48)) (drop (suc i) ds) = ap (value_after n) (drop-cons ds i 0 lt) in
    let all : 2 ^ 64 ≤ value_after 0 ds = omega (arith, value_ge (10 * n + (get_or ds i 0 - 48)) (drop (suc i) ds)) in
    let f : ltb (value_after 0 ds) (2 ^ 64) ≡ false = le-ltb _ _ all in
    rw (f, and_false (all_ascii_digits ds)) refl

pub returns-then-next-gt18446744073709551615 : goal.returns-then-next-gt18446744073709551615
returns-then-next-gt18446744073709551615 c =
    too_large c.loop-b.n c.loop-b.b-index c.args.digits.now (omega arith) c.loop-b.invariant.value (omega arith)
