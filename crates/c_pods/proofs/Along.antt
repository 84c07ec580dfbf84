-- Steps along a recorded trace.
use Rattle.std.proofs.Common.{◌≡◌, ℕ, zero, suc, ◌+◌, ◌<◌, ◌≤◌, min, List, [], ◌∷◌, length, refl, sym, subst, arith}
use lib.Dec.{T}
use Rattle.std.specs.Prelude.{Bool, drop, false, if◌then◌else◌, slice_index_or, true, ◌==◌}
use Rattle.c_pods.specs.declared.following.Place.{Place}
use Rattle.c_pods.specs.Follow.{follow, has_byte, place_after, width_after}

if_not : {A : Type 0} (y : Bool) (u v : A) → y ≡ false → (if y then u else v) ≡ v
if_not false u v e = refl
if_not true u v e = absurd (subst T e tt)

if_so : {A : Type 0} (y : Bool) (u v : A) → y ≡ true → (if y then u else v) ≡ u
if_so true u v e = refl
if_so false u v e = absurd (subst T (sym e) tt)

-- a trace that has ended differs from each line that is left
none_left : (lines : List ℕ) (i n : ℕ) (here : Place) → i < length lines → follow (drop i lines) [] n here ≡ record { same = false; place = here }
none_left [] i n here lt = absurd (omega (arith, lt))
none_left (b ∷ bs) zero n here lt = refl
none_left (b ∷ bs) (suc i) n here lt = none_left bs i n here (omega (arith, lt))

-- a byte differs
pub differs : (lines rest : List ℕ) (i n : ℕ) (here : Place) → i < length lines → has_byte rest i (slice_index_or lines i 0) ≡ false
    → follow (drop i lines) (drop i rest) n here ≡ record { same = false; place = here }
differs [] rest i n here lt e = absurd (omega (arith, lt))
differs (b ∷ bs) [] zero n here lt e = refl
differs (b ∷ bs) (t ∷ ts) zero n here lt e = if_not (b == t) _ _ e
differs (b ∷ bs) [] (suc i) n here lt e = none_left bs i n here (omega (arith, lt))
differs (b ∷ bs) (t ∷ ts) (suc i) n here lt e = differs bs ts i n here (omega (arith, lt)) e

-- a byte is the same
goes : (lines rest : List ℕ) (i n : ℕ) (here : Place) → i < length lines → has_byte rest i (slice_index_or lines i 0) ≡ true
    → follow (drop i lines) (drop i rest) n here
    ≡ follow (drop (suc i) lines) (drop (suc i) rest) (width_after (slice_index_or lines i 0) n) (place_after (slice_index_or lines i 0) n here)
goes [] rest i n here lt e = absurd (omega (arith, lt))
goes (b ∷ bs) [] zero n here lt e = absurd (subst T (sym e) tt)
goes (b ∷ bs) [] (suc i) n here lt e = absurd (subst T (sym e) tt)
goes (b ∷ bs) (t ∷ ts) zero n here lt e = if_so (b == t) _ _ e
goes (b ∷ bs) (t ∷ ts) (suc i) n here lt e = goes bs ts i n here (omega (arith, lt)) e

one_more : (i : ℕ) → suc i ≡ i + 1
one_more i = omega arith

pub goes_on : (lines rest : List ℕ) (i n : ℕ) (here : Place) → i < length lines → has_byte rest i (slice_index_or lines i 0) ≡ true
    → follow (drop i lines) (drop i rest) n here
    ≡ follow (drop (i + 1) lines) (drop (i + 1) rest) (width_after (slice_index_or lines i 0) n) (place_after (slice_index_or lines i 0) n here)
goes_on lines rest i n here lt e = subst (λ k. follow (drop i lines) (drop i rest) n here
    ≡ follow (drop k lines) (drop k rest) (width_after (slice_index_or lines i 0) n) (place_after (slice_index_or lines i 0) n here))
    (one_more i) (goes lines rest i n here lt e)

pub is_within : (rest : List ℕ) (i b : ℕ) → has_byte rest i b ≡ true → i < length rest
is_within [] zero b e = absurd (subst T (sym e) tt)
is_within [] (suc i) b e = absurd (subst T (sym e) tt)
is_within (t ∷ ts) zero b e = omega arith
is_within (t ∷ ts) (suc i) b e = omega (arith, is_within ts i b e)

-- no line is left
pub ends : (lines rest : List ℕ) (i n : ℕ) (here : Place) → length lines ≤ i
    → follow (drop i lines) (drop i rest) n here ≡ record { same = true; place = record { at = here.at + n; line = here.line } }
ends [] rest zero n here le = refl
ends [] rest (suc i) n here le = refl
ends (b ∷ bs) rest zero n here le = absurd (omega (arith, le))
ends (b ∷ bs) [] (suc i) n here le = over bs i n here (omega (arith, le)) where
  over : (lines : List ℕ) (i n : ℕ) (here : Place) → length lines ≤ i
      → follow (drop i lines) [] n here ≡ record { same = true; place = record { at = here.at + n; line = here.line } }
  over [] zero n here le = refl
  over [] (suc i) n here le = refl
  over (b ∷ bs) zero n here le = absurd (omega (arith, le))
  over (b ∷ bs) (suc i) n here le = over bs i n here (omega (arith, le))
ends (b ∷ bs) (t ∷ ts) (suc i) n here le = ends bs ts i n here (omega (arith, le))

-- a place after the end is as good as the end
pub clamped : (n m : ℕ) (xs : List ℕ) → m ≡ min n (length xs) → drop m xs ≡ drop n xs
clamped zero zero xs e = refl
clamped (suc n) zero [] e = refl
clamped zero (suc m) [] e = refl
clamped (suc n) (suc m) [] e = refl
clamped zero (suc m) (x ∷ xs) e = absurd (omega (arith, e))
clamped (suc n) zero (x ∷ xs) e = absurd (omega (arith, e))
clamped (suc n) (suc m) (x ∷ xs) e = clamped n m xs (omega (arith, e))
