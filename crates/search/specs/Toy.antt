-- The machine of the crate's tests: a number up to 9, to which one is added or which is doubled.
use Rattle.search.specs.Moves.{KeysDiffer, Moves}
use Rattle.std.specs.Prelude.{◌≢◌, None, Some, [], if◌then◌else◌, nat_lt, slice_get, ℕ, ◌+◌, ◌<◌, ◌==◌, ◌∷◌, ◌≡◌}
use Rattle.std.proofs.Common.{arith, suc, zero, refl}

-- one more, and after 9 comes 0
abbrev pub up : ℕ → ℕ
up n = if nat_lt n 9 then n + 1 else 0

-- twice as much, if that is no more than 9
abbrev pub twice : ℕ → ℕ
twice n = if nat_lt n 5 then n + n else n

-- two steps from each number, 9 has a kind, and a step to 8 is looked for
abbrev pub toy : Moves ℕ
toy = record {
  first = 0;
  after = λ n. up n ∷ twice n ∷ [];
  key = λ n. n ∷ [];
  kind = λ n. if n == 9 then Some 3 else None;
  marks = λ n step. (if step == 0 then up n else twice n) == 8;
}

pub toy_differs : KeysDiffer toy
toy_differs a b reached_a reached_b same = cc

-- the second step is step 1
pub second : (n step : ℕ) → step < 2 → step ≢ 0 → slice_get (toy.after n) step ≡ Some (twice n)
second n zero few other = absurd (other refl)
second n (suc zero) few other = refl
second n (suc (suc step)) few other = absurd (omega (arith, few))
