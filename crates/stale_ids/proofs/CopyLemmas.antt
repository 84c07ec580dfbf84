-- A registry that is copied birth by birth.
use Rattle.std.proofs.Common.{List, Option, None, Some, IsSome, [], ap, arith, drop, get_or, length, suc, sym, take, zero, ℕ, ◌++◌, ◌+◌, ◌<◌, ◌≤◌}
use Rattle.std.proofs.Common.{◌∙◌, ◌∷◌, ◌≡◌, refl}
use Rattle.std.specs.List.{AllByRecursion, slice_get}
use Rattle.stale_ids.proofs.IndexLemmas.{All-weaker}
use Rattle.stale_ids.specs.declared.index.Place.{Place}
use Rattle.stale_ids.specs.Register.{AreBorn, AreRising, Register, after_insert}
use Rattle.stale_ids.specs.Index.{AreFull, onto, pairs}

module _ {X : Type 0} where
  pub all-at : (P : X → Type 0) (xs : List X) (i : ℕ) (x : X) → AllByRecursion P xs → slice_get xs i ≡ Some x → P x
  all-at P [] i x all here = absurd (cc)
  all-at P (y ∷ xs) zero x all here = (let same : y ≡ x = cc in rw (← same) all.0)
  all-at P (y ∷ xs) (suc i) x all here = all-at P xs i x all.1 here

  pub all-dropped : (P : X → Type 0) (xs : List X) (i : ℕ) (x : X) → AllByRecursion P (drop i xs) → slice_get xs i ≡ Some x → P x
  all-dropped P [] i x all here = absurd (cc)
  all-dropped P (y ∷ xs) zero x all here = (let same : y ≡ x = cc in rw (← same) all.0)
  all-dropped P (y ∷ xs) (suc i) x all here = all-dropped P xs i x all here

  pub take-next : (xs : List X) (i : ℕ) (x : X) → slice_get xs i ≡ Some x → take (suc i) xs ≡ take i xs ++ x ∷ []
  take-next [] i x here = absurd (cc)
  take-next (y ∷ xs) zero x here = (let same : y ≡ x = cc in ap (λ z. z ∷ []) same)
  take-next (y ∷ xs) (suc i) x here = ap (λ ys. y ∷ ys) (take-next xs i x here)

module _ {T : Type 0} where
  -- what comes after a place was born later
  pub later : (live : List (ℕ × T)) (i n : ℕ) (v : T) → AreRising live → slice_get live i ≡ Some (n, v) → AllByRecursion (λ p. n < p.0) (drop (suc i) live)
  later [] i n v rising here = absurd (cc)
  later (p ∷ live) zero n v rising here = (let same : p ≡ (n, v) = cc in rw (same) at rising.0)
  later (p ∷ live) (suc i) n v rising here = later live i n v rising.1 here

  one_onto : (n : ℕ) (o : Option T) (v : T) (ps : List (ℕ × T)) → o ≡ Some v → slice_get (onto n o ps) 0 ≡ Some (n, v)
  one_onto n None v ps is = absurd (cc)
  one_onto n (Some w) v ps is = (let same : w ≡ v = cc in ap (λ u. Some (n, u)) same)

  more_onto : (n : ℕ) (o : Option T) (ps : List (ℕ × T)) (i : ℕ) → IsSome o → slice_get (onto n o ps) (suc i) ≡ slice_get ps i
  more_onto n None ps i some = absurd (cc)
  more_onto n (Some w) ps i some = refl

  -- the pair at a place of the index
  pub pair : (slots : List (Option T)) (es : List Place) (i : ℕ) (e : Place) (v : T) → AreFull slots es → i < length es → e ≡ get_or es i e
      → get_or slots e.slot None ≡ Some v
      → slice_get (pairs slots es) i ≡ Some (e.number, v)
  pair slots [] i e v full within read is = absurd (omega arith)
  pair slots (f ∷ es) zero e v full within read is =
      (let is' : get_or slots f.slot None ≡ Some v = rw (read) at is in rw (read) (one_onto f.number (get_or slots f.slot None) v (pairs slots es) is'))
  pair slots (f ∷ es) (suc i) e v full within read is = more_onto f.number (get_or slots f.slot None) (pairs slots es) i full.0
      ∙ pair slots es i e v full.1 (omega arith) read is

-- the registry with so many of the living copied
pub record IsCopied {T : Type 0} (r copy : Register T) (i : ℕ) : Type 0 where
  pub live : copy.live ≡ take i r.live
  pub limit : copy.limit ≡ r.limit
  pub places : copy.places ≡ r.places
  pub before : AllByRecursion (λ p. copy.births ≤ p.0) (drop i r.live)
  pub most : copy.births ≤ r.births

-- the next of the living is copied
pub copied_next : {T : Type 0} (r copy : Register T) (i n : ℕ) (v : T) → AreRising r.live → AreBorn r.births r.live
    → slice_get r.live i ≡ Some (n, v) → IsCopied r copy i
    → IsCopied r (after_insert (record copy { births = n }) v) (i + 1)
copied_next {T} r copy i n v rising born here copied =
    let on : i + 1 ≡ suc i = omega arith in
    let one : n + 1 ≡ suc n = omega arith in
    let below : n < r.births = all-at (λ p. p.0 < r.births) r.live i (n, v) born here in
    record {
      live = ap (λ l. l ++ (n, v) ∷ []) copied.live ∙ sym (ap (λ k. take k r.live) on ∙ take-next r.live i (n, v) here);
      limit = copied.limit;
      places = copied.places;
      before = rw (on) (All-weaker (λ p. n < p.0) (λ p. n + 1 ≤ p.0) (λ p lt. omega arith) (drop (suc i) r.live) (later r.live i n v rising here));
      most = omega arith;
    }
