-- The last list that has anybody, word by word; and what its first is.
use Rattle.pod_sched.specs.Buckets.Last.{AreWithin, GivesLast, IsLast, NoFirst}
use Rattle.lwp_types.specs.Choice.{best_by, better_by}
use Rattle.std.proofs.Common.{Bool, IsTrue, List, MatchOption, None, Option, Some, [], arith, cond, eqb, false, inl}
use Rattle.std.proofs.Common.{inr, is_some, leb, refl, sym, true, ℕ, ◌*◌, ◌+◌, ◌-◌, ◌<◌, ◌∙◌, ◌∷◌, ◌≡◌, ◌≢◌, ◌≤◌}
use Rattle.std.proofs.lemmas.Bool.{cases_lt, eq-eqb, eqb-false, eqb-true, le-leb, lt-leb, ne_eqb}
use Rattle.std.proofs.lemmas.Nat.Bits.{bit_at-zero}
use Rattle.std.specs.Int.{bit_at}
use Rattle.std.specs.List.{AllByRecursion, find, fold}

-- ---- a word of bits

module _ {A : Type 0} where
  unmarked : (o : Option A) → ◌≡◌ {A = ℕ} (cond (is_some o) 1 0) 0 → o ≡ None
  unmarked None zero = refl
  unmarked (Some x) zero = absurd (omega arith)

  marked : (o : Option A) → ◌≡◌ {A = ℕ} (cond (is_some o) 1 0) 1 → IsTrue (is_some o)
  marked None one = absurd (omega arith)
  marked (Some x) one = refl

  abbrev pub IsWord : (ℕ → Option A) → ℕ → ℕ → Type 0
  IsWord firsts at word = (i : ℕ) → i < 64 → bit_at word i ≡ cond (is_some (firsts (64 * at + i))) 1 0

  pub none_in_word : (firsts : ℕ → Option A) (at word : ℕ) → IsWord firsts at word → word ≡ 0 → NoFirst firsts (64 * at) (64 * at + 64)
  none_in_word firsts at word bits zero m from to =
      let place : 64 * at + (m - 64 * at) ≡ m = omega arith in
      let bit = bits (m - 64 * at) (omega arith) in
      let clear : bit_at word (m - 64 * at) ≡ 0 = rw zero (bit_at-zero (m - 64 * at)) in
      unmarked (firsts m) (rw place at (sym bit ∙ clear))

  pub last_in_word : (firsts : ℕ → Option A) (at word j : ℕ) → IsWord firsts at word → j < 64 → bit_at word j ≡ 1
      → ((i : ℕ) → j < i → bit_at word i ≡ 0) → IsLast firsts (64 * at) (64 * at + 64) (64 * at + j)
  last_in_word firsts at word j bits j_in one zeros = record {
    not_before = omega arith;
    below = omega arith;
    has_some = marked (firsts (64 * at + j)) (sym (bits j j_in) ∙ one);
    none_later = λ m after to.
        let place : 64 * at + (m - 64 * at) ≡ m = omega arith in
        let bit = bits (m - 64 * at) (omega arith) in
        unmarked (firsts m) (rw place at (sym bit ∙ zeros (m - 64 * at) (omega arith)));
  }

-- ---- the first of the heaviest

module _ (weight : ℕ → ℕ) where
  abbrev firsts : List ℕ → ℕ → Option ℕ
  firsts xs p = find (λ x. eqb (weight x) p) xs

  -- nothing is heavier than p
  at_most : (p : ℕ) (xs : List ℕ) → ((m : ℕ) → p < m → firsts xs m ≡ None) → AllByRecursion (λ x. weight x ≤ p) xs
  at_most p [] none = tt
  at_most p (x ∷ xs) none = (
    elim (cases_lt p (weight x)) [
      | inl heavier ↦
          let here = none (weight x) heavier in
          let is : eqb (weight x) (weight x) ≡ true = eq-eqb _ _ refl in
          let found : Some x ≡ None = rw is at here in
          absurd (cc)
      | inr not_heavier ↦ not_heavier
    ],
    at_most p xs (λ m above. rest (eqb (weight x) m) x (firsts xs m) (none m above)),
  )
    where
      rest : (t : Bool) (y : ℕ) (o : Option ℕ) → cond t (Some y) o ≡ None → o ≡ None
      rest true y o none = absurd (cc)
      rest false y o none = none

  stays : (p : ℕ) (xs : List ℕ) → AllByRecursion (λ x. weight x ≤ p) xs → (b : ℕ) → weight b ≡ p → fold (better_by weight) (Some b) xs ≡ Some b
  stays p [] all b is = refl
  stays p (x ∷ xs) all b is =
      let no_better : leb (weight x) (weight b) ≡ true = le-leb _ _ (omega (arith, all.0, is)) in
      rw no_better (stays p xs all.1 b is)

  abbrev Lighter : ℕ → Option ℕ → Type 0
  Lighter p found = MatchOption found (Unit {0}) (λ b. weight b < p)

  reached : (p : ℕ) (xs : List ℕ) → AllByRecursion (λ x. weight x ≤ p) xs → (k : ℕ) → firsts xs p ≡ Some k → (acc : Option ℕ)
      → Lighter p acc → fold (better_by weight) acc xs ≡ Some k
  reached p [] all k found acc lighter = absurd (cc)
  reached p (x ∷ xs) all k found acc lighter = by_test (eqb (weight x) p) refl (λ later. reached p xs all.1 k later) found
    where
      takes : (acc : Option ℕ) → Lighter p acc → weight x ≡ p → better_by weight acc x ≡ Some x
      takes None lighter is = refl
      takes (Some b) lighter is =
          let better : leb (weight x) (weight b) ≡ false = lt-leb _ _ (omega (arith, lighter, is)) in
          rw better refl

      passes_by : (acc : Option ℕ) → Lighter p acc → weight x < p → Lighter p (better_by weight acc x)
      passes_by None lighter less = less
      passes_by (Some b) lighter less = either (leb (weight x) (weight b))
        where
          either : (t : Bool) → Lighter p (cond t (Some b) (Some x))
          either true = lighter
          either false = less

      by_test : (t : Bool) → eqb (weight x) p ≡ t
          → (find (λ y. eqb (weight y) p) xs ≡ Some k → (next : Option ℕ) → Lighter p next → fold (better_by weight) next xs ≡ Some k)
          → cond t (Some x) (find (λ y. eqb (weight y) p) xs) ≡ Some k → fold (better_by weight) (better_by weight acc x) xs ≡ Some k
      by_test true e rest here =
          let is : weight x ≡ p = eqb-true _ _ e in
          rw (takes acc lighter is) (stays p xs all.1 x is ∙ here)
      by_test false e rest later =
          let not_p : weight x ≢ p = eqb-false _ _ e in
          rest later (better_by weight acc x) (passes_by acc lighter (omega (arith, all.0, not_p)))

  -- nobody weighs so much or more
  pub none_beyond : (n : ℕ) (xs : List ℕ) → AllByRecursion (λ x. weight x < n) xs → (m : ℕ) → n ≤ m → firsts xs m ≡ None
  none_beyond n [] low m past = refl
  none_beyond n (x ∷ xs) low m past =
      let differs : eqb (weight x) m ≡ false = ne_eqb _ _ (λ same. absurd (omega (arith, same, low.0))) in
      rw differs (none_beyond n xs low.1 m past)

  -- where all weigh from 1 to n, only lists from 1 to n have anybody
  pub are_within : (n : ℕ) (xs : List ℕ) → AllByRecursion (λ x. (1 ≤ weight x) × (weight x ≤ n)) xs → AreWithin (firsts xs) n
  are_within n [] in_range = record { none_at_zero = refl; none_above = λ m above in_all. refl }
  are_within n (x ∷ xs) in_range =
      let rest = are_within n xs in_range.1 in
      let not_zero : eqb (weight x) 0 ≡ false = ne_eqb _ _ (λ same. absurd (omega (arith, same, in_range.0.0))) in
      record {
        none_at_zero = rw not_zero rest.none_at_zero;
        none_above = λ m above in_all.
            let lighter : eqb (weight x) m ≡ false = ne_eqb _ _ (λ same. absurd (omega (arith, same, above, in_range.0.1))) in
            rw lighter (rest.none_above m above in_all);
      }

  -- where all weigh less than 256, the first of the last is the first of the heaviest
  pub last_is_best : (xs : List ℕ) → AllByRecursion (λ x. weight x < 256) xs → (given : Option ℕ) → GivesLast (firsts xs) given → given ≡ best_by weight xs
  last_is_best xs low (Some k) last = sym (reached last.list xs (at_most last.list xs
      (λ m above. elim (cases_lt m 256) [ inl below ↦ last.none_later m above below | inr past ↦ none_beyond 256 xs low m past ])) k last.is_first None tt)
  last_is_best [] low None none = refl
  last_is_best (x ∷ xs) low None none =
      let is : eqb (weight x) (weight x) ≡ true = eq-eqb _ _ refl in
      let here : Some x ≡ None = rw is at (none (weight x) (omega arith) low.0) in
      absurd (cc)
