-- Keys and their places as numbers, by size: where a key comes next.
use Rattle.state_text.specs.Keys.{AreCodes, IsAbsent, IsCode, IsNext, IsPlace, code, codes_from, key_at, place_under}
use Rattle.std.proofs.Common.{Bool, List, None, Some, [], ap, arith, cond, drop, get_or, inl, inr, length, ltb, refl}
use Rattle.std.proofs.Common.{suc, sym, take, true, false, zero, ℕ, ◌*◌, ◌++◌, ◌+◌, ◌-◌, ◌<◌, ◌∙◌, ◌∷◌, ◌≡◌, ◌≤◌}
use Rattle.std.proofs.lemmas.Bool.{cases_lt, ltb-false, ltb-true, ne_eqb}
use Rattle.std.proofs.lemmas.List.{append-nil, drop_all, take_all}
use Rattle.std.proofs.lemmas.List.Sorted.{Contains-permutation, IsPermutation-sym}
use Rattle.std.specs.List.{Contains}
use Rattle.std.specs.List.Sorted.{IsNonDecreasing, IsPartitionPoint, IsPermutation}

-- the number at a place
code_at : (n : ℕ) (keys : List ℕ) (i d : ℕ) → i < length keys → get_or (codes_from n keys) i d ≡ code (key_at keys i) (n + i)
code_at n [] i d lt = absurd (omega (arith, lt))
code_at n (k ∷ ks) zero d lt = ap (λ m. code k m) (omega arith)
code_at n (k ∷ ks) (suc i) d lt = code_at (n + 1) ks i d (omega (arith, lt)) ∙ ap (λ m. code (key_at ks i) m) (omega arith)

length_codes : (n : ℕ) (keys : List ℕ) → length (codes_from n keys) ≡ length keys
length_codes n [] = refl
length_codes n (k ∷ ks) = ap suc (length_codes (n + 1) ks)

-- in whatever order they are put
pub are_codes : (keys ys : List ℕ) → length keys ≤ 18446744073709551616 → IsPermutation (codes_from 0 keys) ys → IsNonDecreasing ys → AreCodes keys ys
are_codes keys ys few moved rise = record {
  few = few;
  rise = rise;
  each = λ i lt. Contains-permutation (codes_from 0 keys) ys (code (key_at keys i) i) moved
      (i, omega (arith, lt, length_codes 0 keys), code_at 0 keys i (code (key_at keys i) i) lt ∙ ap (λ m. code (key_at keys i) m) (omega arith));
  only = λ c has.
      let found = Contains-permutation ys (codes_from 0 keys) c (IsPermutation-sym (codes_from 0 keys) ys moved) has in
      let lt : found.0 < length keys = omega (arith, found.1, length_codes 0 keys) in
      record { place = found.0; within = lt; is = sym found.2 ∙ code_at 0 keys found.0 c lt ∙ ap (λ m. code (key_at keys found.0) m) (omega arith) };
}

-- a number has one key and one place
one_key : (k key p from : ℕ) → p < 18446744073709551616 → code key from ≤ code k p → code k p - key * 18446744073709551616 < 18446744073709551616 → k ≡ key
one_key k key p from few least most = omega (arith, few, least, most)

module _ (keys codes : List ℕ) (are : AreCodes keys codes) (key from at : ℕ)
    (point : IsPartitionPoint (λ c. ltb c (code key from) ≡ true) (λ c. ltb c (code key from) ≡ false) codes at) where
  -- where a key stands its number is among the others
  not_before : (j d : ℕ) → j < length keys → key_at keys j ≡ key → from ≤ j → at < length codes × (get_or codes at d ≤ code key j)
  not_before j d lt same ge =
      let has = are.each j lt in
      let here : get_or codes has.0 (code (key_at keys j) j) ≡ code key j = has.2 ∙ ap (λ k. code k j) same in
      elim (cases_lt has.0 at) [
        | inl less
            ↦ absurd (omega (
              arith,
              ge,
              here,
              ltb-true (get_or codes has.0 (code (key_at keys j) j)) (code key from) (point.0 has.0 (code (key_at keys j) j) (omega arith) less),
            ))
        | inr more ↦ (
          omega (arith, more, has.1),
          omega (arith, here, any_default codes has.0 d (code (key_at keys j) j) has.1, are.rise at has.0 d more has.1),
        )
      ]
    where
      any_default : (xs : List ℕ) (i d e : ℕ) → i < length xs → get_or xs i d ≡ get_or xs i e
      any_default [] i d e lt = absurd (omega (arith, lt))
      any_default (x ∷ xs) zero d e lt = refl
      any_default (x ∷ xs) (suc i) d e lt = any_default xs i d e (omega (arith, lt))

  -- the number at the place is one of the key
  pub here_next : (c : ℕ) → at < length codes → get_or codes at c ≡ c → c - key * 18446744073709551616 < 18446744073709551616
      → IsPlace keys key from (c - key * 18446744073709551616)
  here_next c within is most =
      let found = are.only c (at, within, is) in
      let p = found.place in
      let small : p < 18446744073709551616 = omega (arith, found.within, are.few) in
      let least : code key from ≤ c = omega (arith, is, ltb-false (get_or codes at c) (code key from) (point.1 at c (omega arith) within)) in
      let same : key_at keys p ≡ key = one_key (key_at keys p) key p from small (omega (arith, least, found.is)) (omega (arith, most, found.is)) in
      let place : c - key * 18446744073709551616 ≡ p = omega (arith, found.is, same) in
      rw place (record {
        least = omega (arith, least, found.is, same);
        within = found.within;
        here = same;
        absent = λ j ge lt. ne_eqb (key_at keys j) key (λ e.
            let before = not_before j c (omega (arith, lt, found.within)) e ge in
            absurd (omega (arith, lt, is, before.1, found.is, same)));
      })

  -- the number at the place is one of a greater key
  pub none_next : (c : ℕ) → get_or codes at c ≡ c → 18446744073709551616 ≤ c - key * 18446744073709551616 → IsAbsent keys key from (length keys)
  none_next c is more j ge lt = ne_eqb (key_at keys j) key (λ e.
      let before = not_before j c lt e ge in
      absurd (omega (arith, lt, are.few, is, before.1, more)))

  -- all numbers are less
  pub none_left : length codes ≤ at → IsAbsent keys key from (length keys)
  none_left le j ge lt = ne_eqb (key_at keys j) key (λ e.
      let before = not_before j 0 lt e ge in
      absurd (omega (arith, le, before.0)))

  -- what comes next, where a number stands at the place
  pub next_here : (c : ℕ) → at < length codes → get_or codes at c ≡ c → IsNext keys key from (place_under key c)
  next_here c within is = by_test (ltb (c - key * 18446744073709551616) 18446744073709551616) refl
    where
      by_test : (b : Bool) → ltb (c - key * 18446744073709551616) 18446744073709551616 ≡ b
          → IsNext keys key from (cond b (Some (c - key * 18446744073709551616)) None)
      by_test true e = here_next c within is (ltb-true (c - key * 18446744073709551616) 18446744073709551616 e)
      by_test false e = none_next c is (ltb-false (c - key * 18446744073709551616) 18446744073709551616 e)

-- a part of a list that was put back whole
pub put_back : (n : ℕ) (ys xs : List ℕ) → length xs ≤ length ys → length ys ≤ n → take n (ys ++ drop (length ys) xs) ≡ ys
put_back n ys xs all most = ap (λ zs. take n (ys ++ zs)) (drop_all (length ys) xs all) ∙ ap (take n) (append-nil ys) ∙ take_all n ys most
