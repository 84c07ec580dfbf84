-- The living in their registry, one by one.
use Rattle.death_cleanup.specs.Moves.{pair_with_block, kind_with_marks, kind_marks, kind_with_block, stack_of, pair_with_stack}
use Rattle.death_cleanup.specs.declared.rows.Kind.{Kind}
use Rattle.lwp_types.specs.declared.rows.Block.{Block}
use Rattle.lwp_types.specs.declared.rows.Mark.{Mark}
use Rattle.stale_ids.specs.Register.{AreRising, numbers, value_of, with_value}
use Rattle.std.proofs.Common.{List, None, Option, Some, [], ap, arith, cond, drop, eqb, inl, inr, length}
use Rattle.std.proofs.Common.{map, refl, suc, sym, true, zero, ℕ, ◌+◌, ◌<◌, ◌∙◌, ◌∷◌, ◌≡◌}
use Rattle.std.proofs.lemmas.Bool.{cases_eq, eq-eqb, ne_eqb}
use Rattle.std.specs.Borrow.{Bor}
use Rattle.std.specs.List.{AllByRecursion, slice_get}
use Rattle.std.specs.Prelude.{is_some, option_copied, slice_index}

pub later-absent : (t : ℕ) (living : List (ℕ × Kind)) → AllByRecursion (λ (q : ℕ × Kind). t < q.0) living → value_of t living ≡ None
later-absent t [] h = refl
later-absent t (p ∷ living) h = rw (ne_eqb p.0 t (λ e. let less : t < p.0 = h.0 in omega arith)) (later-absent t living h.1)

-- a pair, changed where it is that of t
abbrev pub changed : ℕ → (Kind → Kind) → ℕ × Kind → ℕ × Kind
changed t f live = (live.0, cond (eqb live.0 t) (f live.1) live.1)

-- a number that nobody has is set in vain
pub changed-absent : (t : ℕ) (f : Kind → Kind) (living : List (ℕ × Kind)) → value_of t living ≡ None → map (changed t f) living ≡ living
changed-absent t f [] h = refl
changed-absent t f (p ∷ living) h = elim (cases_eq p.0 t) [
  | inl e ↦ absurd (let no : Some p.1 ≡ None = (rw (eq-eqb p.0 t e) at h) in cc)
  | inr away ↦ rw (ne_eqb p.0 t away) (ap (λ ps. p ∷ ps) (changed-absent t f living (rw (ne_eqb p.0 t away) at h)))
]

pub block-absent : (t : ℕ) (b : Block) (living : List (ℕ × Kind)) → value_of t living ≡ None → map (pair_with_block t b) living ≡ living
block-absent t b living h = changed-absent t (kind_with_block b) living h

value-absent : (t : ℕ) (v : Kind) (living : List (ℕ × Kind)) → value_of t living ≡ None → with_value t v living ≡ living
value-absent t v [] h = refl
value-absent t v (p ∷ living) h = elim (cases_eq p.0 t) [
  | inl e ↦ absurd (let no : Some p.1 ≡ None = (rw (eq-eqb p.0 t e) at h) in cc)
  | inr away ↦ rw (ne_eqb p.0 t away) (ap (λ ps. p ∷ ps) (value-absent t v living (rw (ne_eqb p.0 t away) at h)))
]

-- to write back who lives there, changed, is to change it
pub written-changed : (t : ℕ) (f : Kind → Kind) (v : Kind) (living : List (ℕ × Kind)) → AreRising living → value_of t living ≡ Some v
    → with_value t (f v) living ≡ map (changed t f) living
written-changed t f v [] h is = absurd (cc)
written-changed t f v (p ∷ living) h is = elim (cases_eq p.0 t) [
  | inl e ↦
      let same : p.1 ≡ v = (let k : Some p.1 ≡ Some v = (rw (eq-eqb p.0 t e) at is) in cc) in
      let none : value_of t living ≡ None = later-absent t living (rw (sym e) h.0) in
      rw (eq-eqb p.0 t e) (ap (λ ps. (p.0, f v) ∷ ps) (value-absent t (f v) living none ∙ sym (changed-absent t f living none))
      ∙ ap (λ w. (p.0, f w) ∷ map (changed t f) living) (sym same))
  | inr away ↦ rw (ne_eqb p.0 t away) (ap (λ ps. p ∷ ps) (written-changed t f v living h.1 (rw (ne_eqb p.0 t away) at is)))
]

pub written-block : (t : ℕ) (b : Block) (v : Kind) (living : List (ℕ × Kind)) → AreRising living → value_of t living ≡ Some v
    → with_value t (kind_with_block b v) living ≡ map (pair_with_block t b) living
written-block t b v living h is = written-changed t (kind_with_block b) v living h is

-- the marks of who lives there, written back
module _ (t : ℕ) (f : List Mark → List Mark) (living : List (ℕ × Kind)) where
  pub written-marks : (k : Kind) → AreRising living → value_of t living ≡ Some k
      → with_value t (kind_with_marks (f (kind_marks (Some k))) k) living ≡ map (pair_with_stack t (f (stack_of t living))) living
  written-marks k h is = written-changed t (kind_with_marks (f (kind_marks (Some k)))) k living h is
      ∙ ap (λ o. map (pair_with_stack t (f (kind_marks o))) living) (sym is)

  pub no-marks : value_of t living ≡ None → living ≡ map (pair_with_stack t (f (stack_of t living))) living
  no-marks none = sym (changed-absent t (kind_with_marks (f (stack_of t living))) living none)

-- a list from its i-th element on
drop-suc : {A : Type 0} (xs : List A) (i : ℕ) (x : A) → slice_get xs i ≡ Some x → drop i xs ≡ x ∷ drop (suc i) xs
drop-suc [] i x h = absurd (cc)
drop-suc (y ∷ xs) zero x h = let e : y ≡ x = cc in ap (λ z. z ∷ xs) e
drop-suc (y ∷ xs) (suc i) x h = drop-suc xs i x h

pub drop-some : {A : Type 0} (xs : List A) (i : ℕ) (x : A) → slice_get xs i ≡ Some x → drop i xs ≡ x ∷ drop (i + 1) xs
drop-some xs i x h = let e : suc i ≡ i + 1 = omega arith in drop-suc xs i x h ∙ ap (λ n. x ∷ drop n xs) e

-- what is lent is there
pub copied-some : {A : Type 0} (o : Option (Bor A)) (v : A) → option_copied o ≡ Some v → is_some o ≡ true
copied-some None v h = absurd (cc)
copied-some (Some r) v h = refl

module _ {A : Type 0} where
  later-number : (m : ℕ) (living : List (ℕ × A)) (i : ℕ) → AllByRecursion (λ (q : ℕ × A). m < q.0) living → i < length living
      → m < slice_index (numbers living) i
  later-number m [] i h within = absurd (omega arith)
  later-number m (p ∷ living) zero h within = h.0
  later-number m (p ∷ living) (suc i) h within = later-number m living i h.1 (omega arith)

  -- the i-th of the living is found under its number
  pub nth-own : (living : List (ℕ × A)) (i n : ℕ) → AreRising living → i < length living → n ≡ slice_index (numbers living) i
      → (v : A) × (value_of n living ≡ Some v) × (slice_get living i ≡ Some (n, v))
  nth-own [] i n h within is = absurd (omega arith)
  nth-own (p ∷ living) zero n h within is = (p.1, rw (is, eq-eqb p.0 p.0 refl) refl, ap (λ m. Some (m, p.1)) (sym is))
  nth-own (p ∷ living) (suc i) n h within is =
      let less : p.0 < slice_index (numbers living) i = later-number p.0 living i h.0 (omega arith) in
      let rest = nth-own living i n h.1 (omega arith) is in
      (rest.0, rw (ne_eqb p.0 n (λ e. omega (arith, is))) rest.1, rest.2)
