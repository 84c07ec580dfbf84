-- A way through finitely many places on which something is used up again and again comes to its end.
use Rattle.lwp_explore.proofs.CycleLaws.{Differ, pigeonhole}
use Rattle.std.proofs.Common.{Bool, ap, arith, eqb, false, inl, inr, refl, subst, suc, sym, true, zero, ℕ, ◌+◌, ◌<◌, ◌∙◌, ◌≡◌, ◌⊎◌, ◌≤◌}
use Rattle.std.proofs.lemmas.Bool.{cases_lt, eqb-false, eqb-true}
use Rattle.std.specs.Prelude.{◌-◌}

-- two of the first so many numbers that go to the same
pub record Pair (f : ℕ → ℕ) (n : ℕ) : Type 0 where
  pub first : ℕ
  pub second : ℕ
  pub before : first < second
  pub within : second < n
  pub same : f first ≡ f second

-- a number below n that goes to x, or none does
find_below : (f : ℕ → ℕ) (x n : ℕ) → ((i : ℕ) × (i < n) × (f i ≡ x)) ⊎ ((i : ℕ) → i < n → f i ≡ x → ⊥)
find_below f x zero = inr (λ i less. absurd (omega (arith, less)))
find_below f x (suc n) = elim (find_below f x n) [
  | inl at ↦ inl (at.0, omega (arith, at.1), at.2)
  | inr none ↦ by (eqb (f n) x) refl none
]
  where
    by : (b : Bool) → eqb (f n) x ≡ b → ((i : ℕ) → i < n → f i ≡ x → ⊥)
        → ((i : ℕ) × (i < suc n) × (f i ≡ x)) ⊎ ((i : ℕ) → i < suc n → f i ≡ x → ⊥)
    by true e none = inl (n, omega arith, eqb-true (f n) x e)
    by false e none = inr (λ i less is. elim (cases_lt i n) [
      | inl before ↦ none i before is
      | inr after ↦ let at : i ≡ n = omega (arith, less, after) in eqb-false (f n) x e (ap f (sym at) ∙ is)
    ])

pair_or : (f : ℕ → ℕ) (n : ℕ) → Pair f n ⊎ Differ f n
pair_or f zero = inr (λ i j pi. absurd (omega (arith, pi)))
pair_or f (suc n) = elim (pair_or f n) [
  | inl pair ↦ inl (record { first = pair.first; second = pair.second; before = pair.before; within = omega (arith, pair.within); same = pair.same })
  | inr differ ↦ elim (find_below f (f n) n) [
    | inl at ↦ inl (record { first = at.0; second = n; before = at.1; within = omega arith; same = at.2 })
    | inr none ↦ inr (more differ none)
  ]
]
  where
    more : Differ f n → ((i : ℕ) → i < n → f i ≡ f n → ⊥) → Differ f (suc n)
    more differ none i j pi pj same = elim (cases_lt i n) [
      | inl li ↦ elim (cases_lt j n) [
        | inl lj ↦ differ i j li lj same
        | inr gj ↦ let at : j ≡ n = omega (arith, pj, gj) in absurd (none i li (same ∙ ap f at))
      ]
      | inr gi ↦ let at : i ≡ n = omega (arith, pi, gi) in elim (cases_lt j n) [
        | inl lj ↦ absurd (none j lj (sym same ∙ ap f at))
        | inr gj ↦ omega (arith, at, pj, gj)
      ]
    ]

-- what is so of a way: at each number it is at one of so many places, and what is left there; from it something is used up, or it is over,
-- or it only goes on; and whether something could be used up there
pub record Way (Over Uses Goes : ℕ → Type 0) (Same : ℕ → ℕ → Type 0) (count : ℕ) (left : ℕ → ℕ) (can : ℕ → Bool) (Done : Type 0) : Type 0 where
  pub place : ℕ → ℕ
  pub placed : (n : ℕ) → place n < count
  pub at_same : (i j : ℕ) → place i ≡ place j → Same i j
  pub kind : (n : ℕ) → (Over n ⊎ Uses n) ⊎ Goes n
  pub falls : (n : ℕ) → left (suc n) ≤ left n
  pub uses : (n : ℕ) → Uses n → left (suc n) < left n
  pub over : (n : ℕ) → Over n → Done
  -- it may not go round where nothing can be used up
  pub round : (i j : ℕ) → i < j → Same i j → ((k : ℕ) → i ≤ k → k < j → Goes k × (can k ≡ false)) → Done
  -- where something can be used up, something is, sooner or later, unless it is over
  pub fair : (n : ℕ) → can n ≡ true → (m : ℕ) × (n ≤ m) × (Over m ⊎ Uses m)

module _ {Over Uses Goes : ℕ → Type 0} {Same : ℕ → ℕ → Type 0} {count : ℕ} {left : ℕ → ℕ} {can : ℕ → Bool} {Done : Type 0}
    (way : Way Over Uses Goes Same count left can Done) where
  falls_on : (n d : ℕ) → left (n + d) ≤ left n
  falls_on n zero = let same : n + 0 ≡ n = omega arith in omega (arith, ap left same)
  falls_on n (suc d) = let same : n + suc d ≡ suc (n + d) = omega arith in omega (arith, ap left same, way.falls (n + d), falls_on n d)

  falls_to : (n m : ℕ) → n ≤ m → left m ≤ left n
  falls_to n m le = let same : n + (m - n) ≡ m = omega (arith, le) in omega (arith, ap left same, falls_on n (m - n))

  -- from n on, something comes within w, or it only goes on
  abbrev Comes : ℕ → Type 0
  Comes n = (m : ℕ) × (n ≤ m) × (Over m ⊎ Uses m)

  window : (n w : ℕ) → Comes n ⊎ ((k : ℕ) → n ≤ k → k < n + w → Goes k)
  window n zero = inr (λ k le less. absurd (omega (arith, le, less)))
  window n (suc w) = elim (window n w) [
    | inl comes ↦ inl comes
    | inr goes ↦ elim (way.kind (n + w)) [
      | inl comes ↦ inl (n + w, omega arith, comes)
      | inr last ↦ inr (λ k le less. elim (cases_lt k (n + w)) [
        | inl before ↦ goes k le before
        | inr after ↦ let at : n + w ≡ k = omega (arith, less, after) in subst Goes at last
      ])
    ]
  ]

  -- in a part of the way something can be used up, or nowhere
  can_or : (i d : ℕ) → ((k : ℕ) × (i ≤ k) × (can k ≡ true)) ⊎ ((k : ℕ) → i ≤ k → k < i + d → can k ≡ false)
  can_or i zero = inr (λ k le less. absurd (omega (arith, le, less)))
  can_or i (suc d) = elim (can_or i d) [
    | inl some ↦ inl some
    | inr none ↦ by (can (i + d)) refl none
  ]
    where
      by : (b : Bool) → can (i + d) ≡ b → ((k : ℕ) → i ≤ k → k < i + d → can k ≡ false)
          → ((k : ℕ) × (i ≤ k) × (can k ≡ true)) ⊎ ((k : ℕ) → i ≤ k → k < i + suc d → can k ≡ false)
      by true e none = inl (i + d, omega arith, e)
      by false e none = inr (λ k le less. elim (cases_lt k (i + d)) [
        | inl before ↦ none k le before
        | inr after ↦ let at : k ≡ i + d = omega (arith, less, after) in ap can at ∙ e
      ])

  -- something comes, or it is done
  next : (n : ℕ) → Comes n ⊎ Done
  next n = elim (window n (suc count)) [
    | inl comes ↦ inl comes
    | inr goes ↦ elim (pair_or (λ i. way.place (n + i)) (suc count)) [
      | inl pair ↦
          let d = pair.second - pair.first in
          let far : n + pair.first + d ≡ n + pair.second = omega (arith, pair.before) in
          elim (can_or (n + pair.first) d) [
            | inl some ↦ let comes = way.fair some.0 some.2 in inl (comes.0, omega (arith, some.1, comes.1), comes.2)
            | inr none ↦ inr (way.round (n + pair.first) (n + pair.second) (omega (arith, pair.before))
                (way.at_same (n + pair.first) (n + pair.second) pair.same)
                (λ k le less. (goes k (omega (arith, le)) (omega (arith, less, pair.within)), none k le (omega (arith, less, far)))))
          ]
      | inr differ ↦ absurd (omega (arith, pigeonhole (suc count) count (λ i. way.place (n + i)) (λ i p. way.placed (n + i)) differ))
    ]
  ]

  done_from : (most n : ℕ) → left n ≤ most → Done
  done_from zero n le = elim (next n) [
    | inr done ↦ done
    | inl comes ↦ elim comes.2 [
      | inl over ↦ way.over comes.0 over
      | inr uses ↦ absurd (omega (arith, le, falls_to n comes.0 comes.1, way.uses comes.0 uses))
    ]
  ]
  done_from (suc most) n le = elim (next n) [
    | inr done ↦ done
    | inl comes ↦ elim comes.2 [
      | inl over ↦ way.over comes.0 over
      | inr uses ↦ done_from most (suc comes.0) (omega (arith, le, falls_to n comes.0 comes.1, way.uses comes.0 uses))
    ]
  ]

  pub is_done : Done
  is_done = done_from (left 0) 0 (omega arith)
