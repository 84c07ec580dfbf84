-- To a place leads one over more than there are exactly where it is in a cycle.
use Rattle.lwp_explore.specs.Cycles.{AreCycles, AreMarked, AreWithin, IsInCycle, LeadsFar, LeadsOver, jump, leap}
use Rattle.std.proofs.Common.{Bool, List, None, Option, Some, [], ap, arith, cond, eqb, false, inl, inr, length, map, refl, suc, sym, true}
use Rattle.std.proofs.Common.{zero, ℕ, ◌+◌, ◌<◌, ◌∙◌, ◌∷◌, ◌≡◌, ◌⊎◌, ◌≤◌}
use Rattle.std.proofs.lemmas.Bool.{cases_lt, eqb-false, eqb-true}
use Rattle.std.proofs.lemmas.List.{length-map}
use Rattle.std.specs.Prelude.{Err, IfOk, Ok, Result, option_and_then, unwrap_or, ◌*◌, ◌-◌}

-- ---- the pigeonhole principle

-- a number sent past m, which that of the last takes the place of
abbrev avoiding : (ℕ → ℕ) → ℕ → ℕ → ℕ → ℕ
avoiding f m last i = cond (eqb (f i) m) (f last) (f i)

abbrev Avoids : ℕ → ℕ → ℕ → ℕ → Type 0
Avoids x m y r = ((x ≡ m) × (r ≡ y)) ⊎ ((x ≡ m → ⊥) × (r ≡ x))

avoids_by : (x m y : ℕ) (t : Bool) → eqb x m ≡ t → Avoids x m y (cond t y x)
avoids_by x m y true e = inl (eqb-true x m e, refl)
avoids_by x m y false e = inr (eqb-false x m e, refl)

avoids : (x m y : ℕ) → Avoids x m y (cond (eqb x m) y x)
avoids x m y = avoids_by x m y (eqb x m) refl

abbrev pub Into : (ℕ → ℕ) → ℕ → ℕ → Type 0
Into f n m = (i : ℕ) → i < n → f i < m

abbrev pub Differ : (ℕ → ℕ) → ℕ → Type 0
Differ f n = (i j : ℕ) → i < n → j < n → f i ≡ f j → i ≡ j

into_less : (f : ℕ → ℕ) (n m : ℕ) → Into f (suc n) (suc m) → Differ f (suc n) → Into (avoiding f m n) n m
into_less f n m into one i p =
    let a = into i (omega (arith, p)) in
    let b = into n (omega arith) in
    let ne : f i ≡ f n → ⊥ = λ e. let z = one i n (omega (arith, p)) (omega arith) e in omega (arith, z, p) in
    elim (avoids (f i) m (f n)) [
      | inl w ↦ omega (arith, w.0, w.1, b, ne_at (f i) (f n) m w.0 b ne)
      | inr w ↦ omega (arith, w.1, a, other (f i) m a w.0)
    ]
  where
    ne_at : (x y m : ℕ) → x ≡ m → y < suc m → (x ≡ y → ⊥) → y < m
    ne_at x y m is b ne = elim (cases_lt y m) [ inl l ↦ l | inr g ↦ absurd (ne (omega (arith, is, b, g))) ]

    other : (x m : ℕ) → x < suc m → (x ≡ m → ⊥) → x < m
    other x m a ne = elim (cases_lt x m) [ inl l ↦ l | inr g ↦ absurd (ne (omega (arith, a, g))) ]

differ_less : (f : ℕ → ℕ) (n m : ℕ) → Differ f (suc n) → Differ (avoiding f m n) n
differ_less f n m one i j p q e =
    elim (avoids (f i) m (f n)) [
      | inl v ↦ elim (avoids (f j) m (f n)) [
        | inl w ↦ one i j (omega (arith, p)) (omega (arith, q)) (v.0 ∙ sym w.0)
        | inr w ↦ let z = one n j (omega arith) (omega (arith, q)) (sym v.1 ∙ e ∙ w.1) in absurd (omega (arith, z, q))
      ]
      | inr v ↦ elim (avoids (f j) m (f n)) [
        | inl w ↦ let z = one i n (omega (arith, p)) (omega arith) (sym v.1 ∙ e ∙ w.1) in absurd (omega (arith, z, p))
        | inr w ↦ one i j (omega (arith, p)) (omega (arith, q)) (sym v.1 ∙ e ∙ w.1)
      ]
    ]

pub pigeonhole : (n m : ℕ) (f : ℕ → ℕ) → Into f n m → Differ f n → n ≤ m
pigeonhole zero m f into one = omega arith
pigeonhole (suc n) zero f into one = absurd (omega (arith, into n (omega arith)))
pigeonhole (suc n) (suc m) f into one = omega (arith, pigeonhole n m (avoiding f m n) (into_less f n m into one) (differ_less f n m one))

-- ---- leaps

module _ (nexts : List (Option ℕ)) where
  pub leap_add : (m n i : ℕ) → leap nexts (m + n) i ≡ option_and_then (leap nexts n) (leap nexts m i)
  leap_add zero n i = let same : 0 + n ≡ n = omega arith in ap (λ k. leap nexts k i) same
  leap_add (suc m) n i = let same : suc m + n ≡ suc (m + n) = omega arith in
      ap (λ k. leap nexts k i) same ∙ by (jump nexts i) (λ j. leap_add m n j)
    where
      by : (o : Option ℕ) → ((j : ℕ) → leap nexts (m + n) j ≡ option_and_then (leap nexts n) (leap nexts m j))
          → option_and_then (leap nexts (m + n)) o ≡ option_and_then (leap nexts n) (option_and_then (leap nexts m) o)
      by None later = refl
      by (Some j) later = later j

  -- over both, by way of a place
  leap_on : (m n i j : ℕ) → leap nexts m i ≡ Some j → leap nexts (m + n) i ≡ leap nexts n j
  leap_on m n i j h = leap_add m n i ∙ ap (option_and_then (leap nexts n)) h

  leap_within : AreWithin nexts → (n i j : ℕ) → leap nexts (suc n) i ≡ Some j → j < length nexts
  leap_within within zero i j h = within i j (one (jump nexts i) ∙ h)
    where
      one : (o : Option ℕ) → o ≡ option_and_then (leap nexts zero) o
      one None = refl
      one (Some k) = refl
  leap_within within (suc n) i j h = by (jump nexts i) (λ k g. leap_within within n k j g) h
    where
      by : (o : Option ℕ) → ((k : ℕ) → leap nexts (suc n) k ≡ Some j → j < length nexts)
          → option_and_then (leap nexts (suc n)) o ≡ Some j → j < length nexts
      by None later g = absurd cc
      by (Some k) later g = later k g

  -- on the way of a leap there is a place after each number of steps
  pub on_way : (m n i c : ℕ) → leap nexts (m + n) i ≡ Some c → leap nexts m i ≡ Some (unwrap_or (leap nexts m i) 0)
  on_way m n i c h = by (leap nexts m i) (sym (leap_add m n i) ∙ h)
    where
      by : (o : Option ℕ) → option_and_then (leap nexts n) o ≡ Some c → o ≡ Some (unwrap_or o 0)
      by None g = absurd cc
      by (Some k) g = refl

  -- a leap is twice as far
  pub doubled : (far : ℕ) (jumps : List (Option ℕ)) → LeadsOver nexts far jumps
      → LeadsOver nexts (far + far) (map (option_and_then (jump jumps)) jumps)
  doubled far jumps over = record {
    some = omega (arith, over.some);
    as_many = length-map jumps (option_and_then (jump jumps)) ∙ over.as_many;
    leads = λ i. mapped jumps i ∙ by i (jump jumps i) (over.leads i);
  }
    where
      mapped : (xs : List (Option ℕ)) (i : ℕ) → jump (map (option_and_then (jump jumps)) xs) i ≡ option_and_then (jump jumps) (jump xs i)
      mapped [] i = refl
      mapped (x ∷ xs) zero = refl
      mapped (x ∷ xs) (suc i) = mapped xs i

      by : (i : ℕ) (o : Option ℕ) → o ≡ leap nexts far i → option_and_then (jump jumps) o ≡ leap nexts (far + far) i
      by i None e = ap (option_and_then (leap nexts far)) e ∙ sym (leap_add far far i)
      by i (Some k) e = over.leads k ∙ sym (leap_on far far i k (sym e))

  pub one_leap : LeadsOver nexts 1 nexts
  one_leap = record { some = omega arith; as_many = refl; leads = λ i. one (jump nexts i) }
    where
      one : (o : Option ℕ) → o ≡ option_and_then (leap nexts zero) o
      one None = refl
      one (Some k) = refl

  pub over_within : AreWithin nexts → (far : ℕ) (jumps : List (Option ℕ)) → LeadsOver nexts far jumps → AreWithin jumps
  over_within within far jumps over i j h =
      let less : suc (far - 1) ≡ far = omega (arith, over.some) in
      omega (arith, over.as_many, leap_within within (far - 1) i j (ap (λ n. leap nexts n i) less ∙ sym (over.leads i) ∙ h))

  -- ---- far leaps end in cycles

  module _ (c : ℕ) where
    abbrev Back : ℕ → Type 0
    Back m = (d : ℕ) × (d < m) × (leap nexts (suc d) c ≡ Some c)

    abbrev Never : ℕ → Type 0
    Never m = (d : ℕ) → d < m → leap nexts (suc d) c ≡ Some c → ⊥

    same_or : (o : Option ℕ) → (o ≡ Some c) ⊎ (o ≡ Some c → ⊥)
    same_or None = inr (λ e. absurd cc)
    same_or (Some k) = by (eqb k c) refl
      where
        by : (b : Bool) → eqb k c ≡ b → (Some k ≡ Some c) ⊎ (Some k ≡ Some c → ⊥)
        by true e = inl (ap (λ n. Some n) (eqb-true k c e))
        by false e = inr (λ same. eqb-false k c e cc)

    look : (m : ℕ) → Back m ⊎ Never m
    look zero = inr (λ d less. absurd (omega (arith, less)))
    look (suc m) = elim (look m) [
      | inl back ↦ inl (back.0, omega (arith, back.1), back.2)
      | inr never ↦ elim (same_or (leap nexts (suc m) c)) [
        | inl is ↦ inl (m, omega arith, is)
        | inr other ↦ inr (λ d less is. elim (cases_lt d m) [
          | inl before ↦ never d before is
          | inr after ↦ let at : d ≡ m = omega (arith, less, after) in other (ap (λ k. leap nexts (suc k) c) (sym at) ∙ is)
        ])
      ]
    ]

    module _ (within : AreWithin nexts) (m i : ℕ) (ends : leap nexts m i ≡ Some c) where
      -- the place after k steps
      abbrev place : ℕ → ℕ
      place k = unwrap_or (leap nexts k i) 0

      placed : (k : ℕ) → k ≤ m → leap nexts k i ≡ Some (place k)
      placed k le = let sum : k + (m - k) ≡ m = omega (arith, le) in on_way k (m - k) i c (ap (λ n. leap nexts n i) sum ∙ ends)

      -- from a place on to the end
      rest_of : (k : ℕ) → k ≤ m → leap nexts (m - k) (place k) ≡ Some c
      rest_of k le = let sum : k + (m - k) ≡ m = omega (arith, le) in
          sym (leap_on k (m - k) i (place k) (placed k le)) ∙ ap (λ n. leap nexts n i) sum ∙ ends

      -- two places that are the same: the end comes back
      comes_back : (j k : ℕ) → j < k → k ≤ m → place j ≡ place k → leap nexts (k - j) c ≡ Some c
      comes_back j k less le same =
          let far : (m - k) + (k - j) ≡ m - j = omega (arith, less, le) in
          sym (leap_on (m - k) (k - j) (place k) c (rest_of k le)) ∙ ap (λ n. leap nexts n (place k)) far
          ∙ ap (leap nexts (m - j)) (sym same) ∙ rest_of j (omega (arith, less, le))

      differ : Never m → Differ place (suc m)
      differ never j k pj pk same = elim (cases_lt j k) [
        | inl less ↦ let d : suc (k - j - 1) ≡ k - j = omega (arith, less) in
            absurd (never (k - j - 1) (omega (arith, less, pk)) (ap (λ n. leap nexts n c) d ∙ comes_back j k less (omega (arith, pk)) same))
        | inr le ↦ elim (cases_lt k j) [
          | inl less ↦ let d : suc (j - k - 1) ≡ j - k = omega (arith, less) in
              absurd (never (j - k - 1) (omega (arith, less, pj)) (ap (λ n. leap nexts n c) d ∙ comes_back k j less (omega (arith, pj)) (sym same)))
          | inr ge ↦ omega (arith, le, ge)
        ]
      ]

      -- after one step more than k
      later_within : (k : ℕ) → suc k ≤ m → place (suc k) < length nexts
      later_within k le = leap_within within k i (place (suc k)) (placed (suc k) le)

      first_within : 1 ≤ m → place 0 < length nexts
      first_within some = by (jump nexts i) refl (sym (leads_first) ∙ placed 1 some)
        where
          leads_first : leap nexts 1 i ≡ option_and_then (leap nexts zero) (jump nexts i)
          leads_first = refl

          inside : (xs : List (Option ℕ)) (k n : ℕ) → jump xs k ≡ Some n → k < length xs
          inside [] k n h = absurd cc
          inside (x ∷ xs) zero n h = omega arith
          inside (x ∷ xs) (suc k) n h = omega (arith, inside xs k n h)

          by : (o : Option ℕ) → jump nexts i ≡ o → option_and_then (leap nexts zero) o ≡ Some (place 1) → place 0 < length nexts
          by None e h = absurd cc
          by (Some n) e h = inside nexts i n e

      into : 1 ≤ m → Into place (suc m) (length nexts)
      into some zero p = first_within some
      into some (suc k) p = later_within k (omega (arith, p))

      pub ends_in_cycle : 1 ≤ m → length nexts ≤ m → IsInCycle nexts c
      ends_in_cycle some many = elim (look m) [
        | inl back ↦ (back.0, back.2)
        | inr never ↦ absurd (omega (arith, many, pigeonhole (suc m) (length nexts) place (into some) (differ never)))
      ]

  -- ---- and to each place of a cycle leads one

  rounds : (c n : ℕ) → leap nexts n c ≡ Some c → (k : ℕ) → leap nexts (k * n) c ≡ Some c
  rounds c n h zero = let none : 0 * n ≡ 0 = omega arith in ap (λ k. leap nexts k c) none
  rounds c n h (suc k) = let same : suc k * n ≡ n + k * n = omega arith in
      ap (λ m. leap nexts m c) same ∙ leap_on n (k * n) c c h ∙ rounds c n h k

  pub one_leads : (c far : ℕ) → IsInCycle nexts c → (i : ℕ) × (leap nexts far i ≡ Some c)
  one_leads c far cycle =
      let n = cycle.0 in
      let all = rounds c (suc n) cycle.1 far in
      let parts : far * n + far ≡ far * suc n = split far n in
      let round : leap nexts (far * n + far) c ≡ Some c = ap (λ m. leap nexts m c) parts ∙ all in
      let there = on_way (far * n) far c c round in (
        unwrap_or (leap nexts (far * n) c) 0,
        sym (leap_on (far * n) far c (unwrap_or (leap nexts (far * n) c) 0) there) ∙ round,
      )
    where
      split : (far n : ℕ) → far * n + far ≡ far * suc n
      split zero n = omega arith
      split (suc far) n = omega (arith, split far n)

pub are_cycles : (nexts jumps : List (Option ℕ)) (marks : List Bool) → AreWithin nexts → LeadsFar nexts jumps → AreMarked jumps (length jumps) marks
    → AreCycles nexts marks
are_cycles nexts jumps marks within leads marked = record {
  as_many = marked.as_many ∙ leads.over.as_many;
  sound = λ c is. let from = marked.sound c is in
      ends_in_cycle nexts c within leads.far from.0 (sym (leads.over.leads from.0) ∙ from.2) leads.over.some leads.enough;
  all = λ c cycle. let from = one_leads nexts c leads.far cycle in
      marked.all from.0 c (inside jumps from.0 c (leads.over.leads from.0 ∙ from.1)) (leads.over.leads from.0 ∙ from.1);
}
  where
    inside : (xs : List (Option ℕ)) (k n : ℕ) → jump xs k ≡ Some n → k < length xs
    inside [] k n h = absurd cc
    inside (x ∷ xs) zero n h = omega arith
    inside (x ∷ xs) (suc k) n h = omega (arith, inside xs k n h)

-- what follows of a value that is there
pub if_ok : {A E : Type 0} (P Q : A → Type 0) (r : Result A E) → IfOk r P → ((a : A) → P a → Q a) → IfOk r Q
if_ok P Q (Ok a) h more = more a h
if_ok P Q (Err e) h more = tt
