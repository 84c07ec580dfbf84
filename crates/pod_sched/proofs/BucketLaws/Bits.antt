-- Marks as bits.
use Rattle.pod_sched.specs.Buckets.Marks.{Marks}
use Rattle.std.proofs.Common.{List, arith, get_or, get_or-set_other, get_or-set_same, inl, inr, length}
use Rattle.std.proofs.Common.{refl, set, suc, ℕ, ◌-◌, ◌/◌, ◌%◌, ◌<◌, ◌^◌, ◌≡◌, ◌≢◌, ◌≤◌}
use Rattle.std.proofs.Math.Nat.{div-eq_of_lt-le, pow-suc}
use Rattle.std.proofs.lemmas.Bool.{cases_eq}
use Rattle.std.proofs.lemmas.Nat.{leading_top}
use Rattle.std.proofs.lemmas.Nat.Bits.{bit_at_above}
use Rattle.std.specs.Int.{bit_at}
use lib.Count.{count_leading_zeros}

-- one word of four is written
pub Marks-written : (words : List ℕ) (n word mark : ℕ) → n < 256 → length words ≡ 4 → bit_at word (n % 64) ≡ mark
    → ((i : ℕ) → i < 64 → i ≢ n % 64 → bit_at word i ≡ bit_at (get_or words (n / 64) 0) i) → Marks words (set words (n / 64) word) n mark
Marks-written words n word mark below long here others = record {
  here = rw (get_or-set_same words (n / 64) word 0 (omega arith)) here;
  others = λ m m_below differs. elim (cases_eq (m / 64) (n / 64)) [
    | inl same ↦
        rw (same, get_or-set_same words (n / 64) word 0 (omega arith)) (others (m % 64) (omega arith) (λ equal. differs (omega arith)))
    | inr apart ↦ rw (get_or-set_other words (n / 64) (m / 64) word 0 apart) refl
  ];
}

module _ (word : ℕ) (some : 0 < word) (fits : word < 2 ^ 64) where
  top_place : (j : ℕ) × (63 - count_leading_zeros 64 word ≡ j) × (2 ^ j ≤ word) × (word < 2 ^ suc j)
  top_place =
      let top = leading_top 64 word some fits in
      (top.0, omega (arith, top.1), top.2, top.3)

  pub top_set : bit_at word (63 - count_leading_zeros 64 word) ≡ 1
  top_set =
      let j = top_place.0 in
      let one : word / 2 ^ j ≡ 1 = div-eq_of_lt-le (2 ^ j) (omega (arith, top_place.2)) (omega (arith, top_place.3, pow-suc 2 j)) in
      rw (top_place.1, one) refl

  pub top_above : (i : ℕ) → 63 - count_leading_zeros 64 word < i → bit_at word i ≡ 0
  top_above i above = bit_at_above word (suc top_place.0) i top_place.3 (omega (arith, top_place.1))
