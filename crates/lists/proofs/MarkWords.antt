-- The bits of a word.
use Rattle.lists.specs.EventMarks.{is_marked}
use Rattle.std.proofs.Common.{ap, arith, false, inl, inr, min, sym, w64, ℕ, ◌-◌, ◌*◌, ◌%◌, ◌<◌, ◌≤◌, ◌^◌, ◌∙◌, ◌≡◌, ◌⊎◌}
use Rattle.std.proofs.lemmas.Bool.{cases_lt}
use Rattle.std.proofs.lemmas.Nat.Bits.{bit_at-lt, bit_at-trailing_zeros, bit_at-zero, bit_at_above, bit_at_and, bit_at_mask_above, bit_at_mask_below}
use Rattle.std.proofs.lemmas.Nat.Bits.{bit_at_mask_inside, ones_shl}
use Rattle.std.specs.Int.{bit_at, trailing_zeros}
use Rattle.std.specs.Prelude.{eqb}
use Rattle.std.specs.Slice.Scan.{HoldsNowhere, IsFirstPlace}
use lib.Bits.{bit_and}

pub unmarked-above : (word e : ℕ) → word < 2 ^ 64 → 64 ≤ e → is_marked word e ≡ false
unmarked-above word e fits above = ap (λ n. eqb n 1) (bit_at_above word 64 e fits above)

pub unmarked-zero : (e : ℕ) → is_marked 0 e ≡ false
unmarked-zero e = ap (λ n. eqb n 1) (bit_at-zero e)

-- a bit that is as in another word below 64 is so everywhere
pub marked-same : (word new e : ℕ) → word < 2 ^ 64 → new < 2 ^ 64 → (e < 64 → bit_at new e ≡ bit_at word e) → is_marked new e ≡ is_marked word e
marked-same word new e fits new_fits same = by_cases (cases_lt e 64)
  where
    by_cases : (e < 64) ⊎ (64 ≤ e) → is_marked new e ≡ is_marked word e
    by_cases (inl under) = ap (λ n. eqb n 1) (same under)
    by_cases (inr over) = unmarked-above new e new_fits over ∙ sym (unmarked-above word e fits over)

-- the bits from a place on, below 32
module _ (word from : ℕ) (low : from < 32) where
  abbrev upper : ℕ
  upper = bit_and word ((2 ^ 32 - 1) * 2 ^ from % 2 ^ 32)

  upper_at : (i : ℕ) → bit_at upper i ≡ min (bit_at word i) (bit_at (2 ^ 32 - 2 ^ from) i)
  upper_at i = bit_at_and word ((2 ^ 32 - 1) * 2 ^ from % 2 ^ 32) i ∙ ap (λ n. min (bit_at word i) (bit_at n i)) (ones_shl 32 from (omega arith))

  pub upper-inside : (i : ℕ) → from ≤ i → i < 32 → bit_at upper i ≡ bit_at word i
  upper-inside i least most = let one = bit_at_mask_inside from 32 i least most in omega (arith, upper_at i, one, bit_at-lt word i)

  pub upper-below : (i : ℕ) → i < from → bit_at upper i ≡ 0
  upper-below i under = let none = bit_at_mask_below from 32 i under in omega (arith, upper_at i, none)

  pub upper-above : (i : ℕ) → 32 ≤ i → bit_at upper i ≡ 0
  upper-above i over = let none = bit_at_mask_above from 32 i over in omega (arith, upper_at i, none)

  pub none-marked : upper ≡ 0 → HoldsNowhere (is_marked word) from 32
  none-marked empty i least most = ap (λ n. eqb n 1) (sym (upper-inside i least most) ∙ ap (λ n. bit_at n i) empty ∙ bit_at-zero i)

  module _ (some : 0 < upper) (fits : upper < 2 ^ 64) where
    place : (trailing_zeros w64 upper < 64) × (bit_at upper (trailing_zeros w64 upper) ≡ 1) × ((i : ℕ) → i < trailing_zeros w64 upper → bit_at upper i ≡ 0)
    place = bit_at-trailing_zeros w64 upper some fits

    pub first-low : trailing_zeros w64 upper < 32
    first-low = by_cases (cases_lt (trailing_zeros w64 upper) 32)
      where
        by_cases : (trailing_zeros w64 upper < 32) ⊎ (32 ≤ trailing_zeros w64 upper) → trailing_zeros w64 upper < 32
        by_cases (inl under) = under
        by_cases (inr over) = let none = upper-above (trailing_zeros w64 upper) over in let one = place.1 in omega (arith, one, none)

    pub first-marked : IsFirstPlace (is_marked word) from 32 (trailing_zeros w64 upper)
    first-marked =
        let least : from ≤ trailing_zeros w64 upper = at_least (cases_lt (trailing_zeros w64 upper) from) in
        record {
          low = least;
          high = omega (arith, first-low);
          before = λ i i_least under. ap (λ n. eqb n 1) (sym (upper-inside i i_least (omega (arith, first-low))) ∙ place.2 i under);
          hit = λ within. ap (λ n. eqb n 1) (sym (upper-inside (trailing_zeros w64 upper) least first-low) ∙ place.1);
        }
      where
        at_least : (trailing_zeros w64 upper < from) ⊎ (from ≤ trailing_zeros w64 upper) → from ≤ trailing_zeros w64 upper
        at_least (inl under) = let none = upper-below (trailing_zeros w64 upper) under in let one = place.1 in omega (arith, one, none)
        at_least (inr least) = least
