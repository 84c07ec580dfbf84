-- The order of paths, and the numbers of rows.
use Rattle.search.specs.Found.{ComesBefore, HasParentsBelow}
use Rattle.search.specs.Known.{HasRowsInOrder}
use Rattle.search.specs.Paths.{IsBefore, IsLower}
use Rattle.search.specs.declared.found.Row.{Row}
use Rattle.search.proofs.Places.{get_within}
use Rattle.std.proofs.Common.{List, Some, [], ap, arith, inl, inr, length, refl, subst, suc, sym, zero, ℕ, ◌++◌, ◌+◌, ◌<◌, ◌∙◌, ◌∷◌, ◌≡◌, ◌≤◌, ◌⊎◌}
use Rattle.std.proofs.lemmas.List.{length-append}
use Rattle.std.specs.Prelude.{slice_get}

pub split_le : (a b : ℕ) → (a ≤ b) ⊎ (b < a)
split_le zero b = inl (omega arith)
split_le (suc a) zero = inr (omega arith)
split_le (suc a) (suc b) = elim (split_le a b) [ inl h ↦ inl (omega (arith, h)) | inr h ↦ inr (omega (arith, h)) ]

-- ---- one step more at the end
lower_left : (p q : List ℕ) (s t : ℕ) → IsLower p q → IsLower (p ++ s ∷ []) (q ++ t ∷ [])
lower_left [] q s t h = absurd h
lower_left (x ∷ p) [] s t h = absurd h
lower_left (x ∷ p) (y ∷ q) s t h = elim h [ inl k ↦ inl k | inr k ↦ inr (k.0, lower_left p q s t k.1) ]

lower_last : (p : List ℕ) (s t : ℕ) → s < t → IsLower (p ++ s ∷ []) (p ++ t ∷ [])
lower_last [] s t h = inl h
lower_last (x ∷ p) s t h = inr (refl, lower_last p s t h)

lower_strip : (p q : List ℕ) (s t : ℕ) → length p ≡ length q → IsLower (p ++ s ∷ []) (q ++ t ∷ []) → IsLower p q ⊎ ((p ≡ q) × (s < t))
lower_strip [] [] s t same h = elim h [ inl k ↦ inr (refl, k) | inr k ↦ absurd k.1 ]
lower_strip [] (y ∷ q) s t same h = absurd (omega (arith, same))
lower_strip (x ∷ p) [] s t same h = absurd (omega (arith, same))
lower_strip (x ∷ p) (y ∷ q) s t same h = elim h [
  | inl k ↦ inl (inl k)
  | inr k ↦ elim (lower_strip p q s t (omega (arith, same)) k.1) [ inl m ↦ inl (inr (k.0, m)) | inr m ↦ inr ((λ i. k.0 i ∷ m.0 i), m.1) ]
]

pub longer : (p : List ℕ) (s : ℕ) → length (p ++ s ∷ []) ≡ length p + 1
longer p s = length-append p (s ∷ [])

pub before_left : (p q : List ℕ) (s t : ℕ) → IsBefore p q → IsBefore (p ++ s ∷ []) (q ++ t ∷ [])
before_left p q s t h = elim h [
  | inl k ↦ inl (omega (arith, k, longer p s, longer q t))
  | inr k ↦ inr (omega (arith, k.0, longer p s, longer q t), lower_left p q s t k.1)
]

pub before_last : (p : List ℕ) (s t : ℕ) → s < t → IsBefore (p ++ s ∷ []) (p ++ t ∷ [])
before_last p s t h = inr (omega (arith, longer p s, longer p t), lower_last p s t h)

pub before_strip : (p q : List ℕ) (s t : ℕ) → IsBefore (p ++ s ∷ []) (q ++ t ∷ []) → IsBefore p q ⊎ ((p ≡ q) × (s < t))
before_strip p q s t h = elim h [
  | inl k ↦ inl (inl (omega (arith, k, longer p s, longer q t)))
  | inr k ↦ (let same : length p ≡ length q = omega (arith, k.0, longer p s, longer q t) in
      elim (lower_strip p q s t same k.1) [ inl m ↦ inl (inr (same, m)) | inr m ↦ inr m ])
]

-- ---- an order
lower_self : (p : List ℕ) → IsLower p p → ⊥
lower_self [] h = h
lower_self (x ∷ p) h = elim h [ inl k ↦ absurd (omega (arith, k)) | inr k ↦ lower_self p k.1 ]

lower_trans : (p q r : List ℕ) → IsLower p q → IsLower q r → IsLower p r
lower_trans [] q r h k = absurd h
lower_trans (x ∷ p) [] r h k = absurd h
lower_trans (x ∷ p) (y ∷ q) [] h k = absurd k
lower_trans (x ∷ p) (y ∷ q) (z ∷ r) h k = elim h [
  | inl a ↦ elim k [ inl b ↦ inl (omega (arith, a, b)) | inr b ↦ inl (omega (arith, a, b.0)) ]
  | inr a ↦ elim k [ inl b ↦ inl (omega (arith, a.0, b)) | inr b ↦ inr (a.0 ∙ b.0, lower_trans p q r a.1 b.1) ]
]

pub before_self : (p : List ℕ) → IsBefore p p → ⊥
before_self p h = elim h [ inl k ↦ absurd (omega (arith, k)) | inr k ↦ lower_self p k.1 ]

pub before_trans : (p q r : List ℕ) → IsBefore p q → IsBefore q r → IsBefore p r
before_trans p q r h k = elim h [
  | inl a ↦ elim k [ inl b ↦ inl (omega (arith, a, b)) | inr b ↦ inl (omega (arith, a, b.0)) ]
  | inr a ↦ elim k [ inl b ↦ inl (omega (arith, a.0, b)) | inr b ↦ inr (a.0 ∙ b.0, lower_trans p q r a.1 b.1) ]
]

pub before_short : (p q : List ℕ) → IsBefore p q → length p ≤ length q
before_short p q h = elim h [ inl k ↦ omega (arith, k) | inr k ↦ omega (arith, k.0) ]

pub before_none : (p : List ℕ) → IsBefore p [] → ⊥
before_none [] h = elim h [ inl k ↦ absurd (omega (arith, k)) | inr k ↦ k.1 ]
before_none (x ∷ p) h = elim h [ inl k ↦ absurd (omega (arith, k)) | inr k ↦ k.1 ]

-- a path comes before another or is it
abbrev pub UpTo : List ℕ → List ℕ → Type 0
UpTo p q = (p ≡ q) ⊎ IsBefore p q

pub up_to_trans : (p q r : List ℕ) → UpTo p q → UpTo q r → UpTo p r
up_to_trans p q r h k = elim h [
  | inl a ↦ subst (λ x. UpTo x r) (sym a) k
  | inr a ↦ elim k [ inl b ↦ inr (subst (λ x. IsBefore p x) b a) | inr b ↦ inr (before_trans p q r a b) ]
]

pub up_to_before : (p q r : List ℕ) → UpTo p q → IsBefore q r → IsBefore p r
up_to_before p q r h k = elim h [ inl a ↦ subst (λ x. IsBefore x r) (sym a) k | inr a ↦ before_trans p q r a k ]

pub before_up_to : (p q r : List ℕ) → IsBefore p q → UpTo q r → IsBefore p r
before_up_to p q r h k = elim k [ inl a ↦ subst (λ x. IsBefore p x) a h | inr a ↦ before_trans p q r h a ]

pub up_to_left : (p q : List ℕ) (s : ℕ) → UpTo p q → UpTo (p ++ s ∷ []) (q ++ s ∷ [])
up_to_left p q s h = elim h [ inl a ↦ inl (ap (λ x. x ++ s ∷ []) a) | inr a ↦ inr (before_left p q s s a) ]

-- ---- paths that go on from parents
module _ (rows : List Row) (below : HasParentsBelow rows) (in_order : HasRowsInOrder rows) (path : ℕ → List ℕ) (none : path zero ≡ [])
    (next : (at : ℕ) (row : Row) → slice_get rows (suc at) ≡ Some row → path (suc at) ≡ path row.parent ++ row.step ∷ []) where
  -- a path by the first of two steps comes before one by the second
  pub by_step : (i j s t : ℕ) → (i < j → IsBefore (path i) (path j)) → ComesBefore i s j t → IsBefore (path i ++ s ∷ []) (path j ++ t ∷ [])
  by_step i j s t rise h = elim (split_le j i) [
    | inl k ↦ (let same : i ≡ j = omega (arith, k, h.0) in
        subst (λ n. IsBefore (path i ++ s ∷ []) (path n ++ t ∷ [])) same (before_last (path i) s t (h.1 k)))
    | inr k ↦ before_left (path i) (path j) s t (rise k)
  ]

  pub rises : (n i j : ℕ) → j ≤ n → i < j → j < length rows → IsBefore (path i) (path j)
  rises n i zero few before within = absurd (omega (arith, before))
  rises zero i (suc j) few before within = absurd (omega (arith, few))
  rises (suc n) zero (suc j) few before within =
      let b = get_within rows (suc j) within in
      inl (omega (arith, ap length none, ap length (next j b.0 b.1), longer (path b.0.parent) b.0.step))
  rises (suc n) (suc i) (suc j) few before within =
      let a = get_within rows (suc i) (omega (arith, before, within)) in
      let b = get_within rows (suc j) within in
      let less : b.0.parent ≤ j = below j b.0 b.1 in
      let rest : IsBefore (path a.0.parent ++ a.0.step ∷ []) (path b.0.parent ++ b.0.step ∷ []) = by_step a.0.parent b.0.parent a.0.step b.0.step
      (λ h. rises n a.0.parent b.0.parent (omega (arith, less, few)) h (omega (arith, less, within)))
      (in_order i j a.0 b.0 (omega (arith, before)) a.1 b.1) in
      subst (λ p. IsBefore p (path (suc j))) (sym (next i a.0 a.1)) (subst (λ p. IsBefore (path a.0.parent ++ a.0.step ∷ []) p) (sym
      (next j b.0 b.1)) rest)

  pub numbers_rise : (i j : ℕ) → i < length rows → IsBefore (path i) (path j) → i < j
  numbers_rise i j within h = elim (split_le j i) [
    | inl k ↦ elim (split_le i j) [
      | inl m ↦ (let same : j ≡ i = omega (arith, k, m) in absurd (before_self (path i) (subst (λ n. IsBefore (path i) (path n)) same h)))
      | inr m ↦ absurd (before_self (path i) (before_trans (path i) (path j) (path i) h (rises i j i (omega arith) m within)))
    ]
    | inr k ↦ k
  ]

  pub numbers_up_to : (i j : ℕ) → i < length rows → UpTo (path i) (path j) → i ≤ j
  numbers_up_to i j within h = elim (split_le i j) [
    | inl k ↦ k
    | inr k ↦ absurd (before_self (path j) (before_up_to (path j) (path i) (path j) (rises i j i (omega arith) k within) h))
  ]
