-- The errors of a text, by the reader's verdict on it.
use Rattle.std.specs.Prelude.{◌≢◌, Bool}
use Rattle.std.proofs.Common.{◌≡◌, ℕ, zero, suc, ◌-◌, ◌<◌, ◌≤◌, true, false, cond, eqb, ltb, List, [], ◌∷◌, length}
use Rattle.std.proofs.Common.{take, drop, Result, Ok, Err, refl, sym, ap, subst, ◌∙◌, arith, length-take}
use Rattle.std.proofs.lemmas.Bool.{eqb-true, ltb-true, ltb-false, lt-ltb}
use Rattle.script_text.specs.declared.reader.Declared.{Declared}
use Rattle.script_text.specs.declared.reason.Reason.{Reason}
use Rattle.script_text.specs.declared.reason.Reason.TheVariants as reason
use Rattle.script_text.specs.declared.script.Script.{Script}
use Rattle.script_text.specs.Grammar.{Spells}
use Rattle.script_text.specs.Spelling.{line_cut, verdict}
use Rattle.script_text.proofs.ScriptLaws.{is_verdict, spelt_from, verdict_long}
use Rattle.script_advice.specs.Advice.{doubted_grade, grade_by, grade_of, remarks_by, report}
use Rattle.script_advice.specs.Doubts.{are_some, doubts}
use Rattle.script_advice.specs.declared.advice.Grade.TheVariants as grade
use Rattle.script_advice.specs.Errors.{declared_by, errors, errors_at, errors_by, from_first}
use Rattle.script_advice.specs.Laws.{AreErrorsTold, BeginsWith, FirstIsReaders, IsFineWhereSpelt, IsKnownByFront}
use Rattle.script_advice.specs.Remarks.{Remark, near_of, place_of, form_of, remark_of}
use Rattle.script_advice.specs.Texts.{remarks_text}
use Rattle.script_advice.specs.declared.texts.Format.{Format}

-- ---- The first.

first_from : (d : Declared) (above : List (List ℕ)) (n : ℕ) (why : Reason) (lines : List (List ℕ)) (tail : List ℕ)
    → BeginsWith (from_first d above n why lines tail) n why
first_from d above n why [] tail = (refl, refl)
first_from d above n why (line ∷ lines) tail = (refl, refl)

first_at : (text : List ℕ) (n : ℕ) (why : Reason) → BeginsWith (errors_at text n why) n why
unfolding errors_at
first_at text n why = elim (eqb n 0) as
    (λ v. eqb n 0 ≡ v
    → BeginsWith
    (cond v (remark_of (declared_by text) false 0 why [] ∷ [])
    (from_first (declared_by text) (take (n - 1) (line_cut text).0) n why (drop (n - 1) (line_cut text).0) (line_cut text).1))
    n why) [
      | true ↦ λ e. (sym (eqb-true n 0 e), refl)
      | false ↦ λ e. first_from (declared_by text) (take (n - 1) (line_cut text).0) n why (drop (n - 1) (line_cut text).0) (line_cut text).1
    ] refl

pub first_is : (text : List ℕ) → FirstIsReaders text
first_is text n why e = subst (λ (r : Result Script (ℕ × Reason)). BeginsWith (errors_by text r) n why) (sym e) (first_at text n why)

-- ---- None.

none_by : (text : List ℕ) (r : Result Script (ℕ × Reason)) → verdict text ≡ r → errors_by text r ≡ [] → (script : Script) × Spells text script
none_by text (Ok s) e h = (s, spelt_from text s e)
none_by text (Err bad) e h = absurd (subst (λ (rs : List Remark). BeginsWith rs bad.0 bad.1) h (first_at text bad.0 bad.1))

fine_by : (text : List ℕ) (s : Script) → Spells text s → errors text ≡ []
fine_by text s h = ap (errors_by text) (is_verdict text s h)

-- a grade that isn't the one of a text that is refused
fine_grade : (text : List ℕ) (b : Bool) → doubted_grade b ≢ grade.Wrong
fine_grade text true = λ e. absurd cc
fine_grade text false = λ e. absurd cc

spelt_grade : (text : List ℕ) (s : Script) → Spells text s → grade_of text ≢ grade.Wrong
unfolding grade_of
spelt_grade text s h = λ e. fine_grade text (are_some (doubts text)) (sym (ap (grade_by text) (is_verdict text s h)) ∙ e)

graded_by : (text : List ℕ) (r : Result Script (ℕ × Reason)) → verdict text ≡ r → grade_by text r ≢ grade.Wrong → (script : Script) × Spells text script
graded_by text (Ok s) e h = (s, spelt_from text s e)
graded_by text (Err bad) e h = absurd (h refl)

graded : (text : List ℕ) → grade_of text ≢ grade.Wrong → (script : Script) × Spells text script
unfolding grade_of
graded text h = graded_by text (verdict text) refl h

pub fine_where_spelt : (text : List ℕ) → IsFineWhereSpelt text
fine_where_spelt text = record { none = (none_by text (verdict text) refl, λ x. fine_by text x.0 x.1); fine = spelt_grade text; wrong = graded text }

told_by : (text : List ℕ) (r : Result Script (ℕ × Reason)) → grade_by text r ≡ grade.Wrong → remarks_by text r ≡ errors_by text r
told_by text (Ok s) e = absurd (fine_grade text (are_some (doubts text)) e)
told_by text (Err bad) e = refl

pub errors_told : (text : List ℕ) → AreErrorsTold text
unfolding grade_of
errors_told text = told_by text (verdict text)

-- ---- The front.

-- all of a list that is no longer
take_all : (n : ℕ) (xs : List ℕ) → length xs ≤ n → take n xs ≡ xs
take_all zero [] h = refl
take_all (suc n) [] h = refl
take_all zero (x ∷ xs) h = absurd (omega arith)
take_all (suc n) (x ∷ xs) h = ap (λ ys. x ∷ ys) (take_all n xs (omega arith))

-- what is told of a text that is too large doesn't depend on it
too_large : (text other : List ℕ) → errors_at text 0 reason.TooLarge ≡ errors_at other 0 reason.TooLarge
unfolding errors_at near_of place_of form_of
too_large text other = refl

long_front : (f : Format) (text : List ℕ) → 16777216 < length text → IsKnownByFront f text
unfolding report grade_of
long_front f text h =
    let l : 16777216 < length (take 16777217 text) = rw (length-take 16777217 text) (omega arith) in
    let front : verdict (take 16777217 text) ≡ Err (0, reason.TooLarge) = verdict_long _ (lt-ltb _ _ l) in
    let whole : verdict text ≡ Err (0, reason.TooLarge) = verdict_long text (lt-ltb _ _ h) in
    record {
      report = ap (λ (rs : List Remark). remarks_text f (take 1000 rs))
          (ap (remarks_by (take 16777217 text)) front ∙ too_large (take 16777217 text) text ∙ sym (ap (remarks_by text) whole));
      grade = ap (grade_by (take 16777217 text)) front ∙ sym (ap (grade_by text) whole);
    }

short_front : (f : Format) (text : List ℕ) → length text ≤ 16777216 → IsKnownByFront f text
short_front f text h =
    let same : take 16777217 text ≡ text = take_all 16777217 text (omega arith) in
    record { report = ap (report f) same; grade = ap grade_of same }

pub known_by_front : (f : Format) (text : List ℕ) → IsKnownByFront f text
known_by_front f text = elim (ltb 16777216 (length text)) as (λ v. ltb 16777216 (length text) ≡ v → IsKnownByFront f text) [
  | true ↦ λ e. long_front f text (ltb-true _ _ e)
  | false ↦ λ e. short_front f text (ltb-false _ _ e)
] refl
