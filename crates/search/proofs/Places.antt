-- The element at a place of a list.
use Rattle.std.proofs.Common.{List, Some, [], ap, arith, inl, inr, length, refl, suc, zero, ℕ, ◌++◌, ◌<◌, ◌⊎◌, ◌∷◌, ◌≡◌}
use Rattle.std.specs.Prelude.{slice_get}

module _ {X : Type 0} where
  pub get_left : (xs ys : List X) (i : ℕ) (x : X) → slice_get xs i ≡ Some x → slice_get (xs ++ ys) i ≡ Some x
  get_left [] ys i x e = absurd cc
  get_left (y ∷ xs) ys zero x e = e
  get_left (y ∷ xs) ys (suc i) x e = get_left xs ys i x e

  pub get_last : (xs : List X) (y : X) → slice_get (xs ++ y ∷ []) (length xs) ≡ Some y
  get_last [] y = refl
  get_last (x ∷ xs) y = get_last xs y

  -- an element stood there before, or is the last one
  pub get_cases : (xs : List X) (y : X) (i : ℕ) (x : X) → slice_get (xs ++ y ∷ []) i ≡ Some x
      → (slice_get xs i ≡ Some x) ⊎ ((i ≡ length xs) × (x ≡ y))
  get_cases [] y zero x e = inr (refl, cc)
  get_cases [] y (suc i) x e = absurd cc
  get_cases (z ∷ xs) y zero x e = inl e
  get_cases (z ∷ xs) y (suc i) x e = elim (get_cases xs y i x e) [ inl h ↦ inl h | inr h ↦ inr (ap suc h.0, h.1) ]

  -- the element at a place within a list
  pub get_within : (xs : List X) (i : ℕ) → i < length xs → (x : X) × (slice_get xs i ≡ Some x)
  get_within [] i h = absurd (omega (arith, h))
  get_within (x ∷ xs) zero h = (x, refl)
  get_within (x ∷ xs) (suc i) h = get_within xs i (omega (arith, h))
