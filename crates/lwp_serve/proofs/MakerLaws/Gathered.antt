-- Lists that are put together from those of the numbers below one.
use Rattle.std.proofs.Common.{◌≡◌, ℕ, zero, suc, ◌*◌, ◌<◌, ◌≤◌, Bool, true, false, ◌&&◌, List, [], ◌∷◌, ◌++◌}
use Rattle.std.proofs.Common.{length, refl, sym, ap, subst, ◌∙◌, arith, inl, inr, length-append}
use Rattle.std.specs.Prelude.{IsTrue}
use Rattle.std.specs.List.{AllByRecursion, list_all}
use Rattle.std.proofs.lemmas.Bool.{cases_lt}
use Rattle.std.proofs.lemmas.List.Concat.{flat_map-append}
use native.Mathlib.Nat.{suc-mul}
use Rattle.script_lines.specs.Phrase.{Phrase}
use Rattle.script_lines.specs.Line.{phrase_text, with_newline}
use Rattle.script_text.specs.Grammar.{spelling}
use Rattle.lwp_serve.specs.Maker.Made.{each}

pub both : (a b : Bool) → (a && b) ≡ true → (a ≡ true) × (b ≡ true)
both true b h = (refl, h)
both false b h = absurd cc

-- the lists of the numbers below n, one after the other
abbrev pub gathered : (ℕ → List Phrase) → ℕ → List Phrase
gathered g zero = []
gathered g (suc n) = gathered g n ++ g n

pub spelling_append : (ps qs : List Phrase) → spelling (ps ++ qs) ≡ spelling ps ++ spelling qs
spelling_append ps qs = flat_map-append (λ p. with_newline (phrase_text p)) ps qs

pub spelt_each : (f : ℕ → List ℕ) (g : ℕ → List Phrase) (n : ℕ) → ((c : ℕ) → c < n → f c ≡ spelling (g c)) → each f n ≡ spelling (gathered g n)
spelt_each f g zero h = refl
spelt_each f g (suc n) h =
    let before : each f n ≡ spelling (gathered g n) = spelt_each f g n (λ c lt. h c (omega arith)) in
    ap (λ (l : List ℕ). l ++ f n) before ∙ ap (λ (l : List ℕ). spelling (gathered g n) ++ l) (h n (omega arith)) ∙ sym (spelling_append (gathered g n) (g n))

pub all_append : (P : Phrase → Type 0) (ps qs : List Phrase) → AllByRecursion P ps → AllByRecursion P qs → AllByRecursion P (ps ++ qs)
all_append P [] qs h k = k
all_append P (p ∷ ps) qs h k = (h.0, all_append P ps qs h.1 k)

pub all_gathered : (P : Phrase → Type 0) (g : ℕ → List Phrase) (n : ℕ) → ((c : ℕ) → c < n → AllByRecursion P (g c)) → AllByRecursion P (gathered g n)
all_gathered P g zero h = tt
all_gathered P g (suc n) h = all_append P (gathered g n) (g n) (all_gathered P g n (λ c lt. h c (omega arith))) (h n (omega arith))

pub all_true : (f : Phrase → Bool) (ps : List Phrase) → list_all f ps ≡ true → AllByRecursion (λ p. IsTrue (f p)) ps
all_true f [] h = tt
all_true f (p ∷ ps) h = let t = both (f p) (list_all f ps) h in (t.0, all_true f ps t.1)

pub length_each : (f : ℕ → List ℕ) (b n : ℕ) → ((c : ℕ) → c < n → length (f c) ≤ b) → length (each f n) ≤ n * b
length_each f b zero h = omega arith
length_each f b (suc n) h =
    let before : length (each f n) ≤ n * b = length_each f b n (λ c lt. h c (omega arith)) in
    omega (arith, length-append (each f n) (f n), suc-mul n b, before, h n (omega arith))

-- ---- What holds of each number below a numeral.

abbrev pub AllBelow : (ℕ → Type 0) → ℕ → Type 0
AllBelow P zero = Unit {0}
AllBelow P (suc n) = AllBelow P n × P n

pub below : (P : ℕ → Type 0) (n : ℕ) → AllBelow P n → (k : ℕ) → k < n → P k
below P zero h k lt = absurd (omega arith)
below P (suc n) h k lt = elim (cases_lt k n) [
  | inl l ↦ below P n h.0 k l
  | inr ge ↦ let same : n ≡ k = omega arith in subst P same h.1
]
