-- Texts by their spans.
use Rattle.std.proofs.Common.{◌≡◌, ℕ, zero, suc, ◌+◌, ◌≤◌, ◌<◌, true, List, [], ◌∷◌, ◌++◌, length, take, drop, Some, refl, sym, ap, subst, ◌∙◌}
use Rattle.std.proofs.Common.{arith, length-append}
use Rattle.std.specs.Prelude.{IsTrue, Result, Ok, Err, OnErr, slice_get, slice_index_or}
use Rattle.std.specs.List.{AllByRecursion}
use Rattle.std.proofs.Math.Seq.{take-length}
use Rattle.lwp_types.specs.TextFields.{is_text}
use Rattle.lists.specs.Texts.{text_at, text_in, texts_in, AreWithin}
use Rattle.lists.specs.declared.text_list.Span.{Span}

part_same : (n s : ℕ) (xs ys : List ℕ) → s + n ≤ length xs → take n (drop s (xs ++ ys)) ≡ take n (drop s xs)
part_same zero s xs ys h = refl
part_same (suc n) zero [] ys h = absurd (omega (arith, h))
part_same (suc n) zero (x ∷ xs) ys h = ap (λ l. x ∷ l) (part_same n zero xs ys (omega (arith, h)))
part_same (suc n) (suc s) [] ys h = absurd (omega (arith, h))
part_same (suc n) (suc s) (x ∷ xs) ys h = part_same (suc n) s xs ys (omega (arith, h))

part_last : (xs ys : List ℕ) → take (length ys) (drop (length xs) (xs ++ ys)) ≡ ys
part_last [] ys = take-length ys
part_last (x ∷ xs) ys = part_last xs ys

-- the texts of these spans stay, whatever comes after their bytes
pub texts_same : (spans : List Span) (xs ys : List ℕ) → AreWithin (length xs) spans → texts_in (xs ++ ys) spans ≡ texts_in xs spans
texts_same [] xs ys h = refl
texts_same (s ∷ spans) xs ys h = ap (λ l. l ∷ texts_in (xs ++ ys) spans) (part_same s.len s.start xs ys h.0)
    ∙ ap (λ l. text_in xs s ∷ l) (texts_same spans xs ys h.1)

map_push : (bytes : List ℕ) (spans : List Span) (s : Span) → texts_in bytes (spans ++ s ∷ []) ≡ texts_in bytes spans ++ text_in bytes s ∷ []
map_push bytes [] s = refl
map_push bytes (x ∷ spans) s = ap (λ l. text_in bytes x ∷ l) (map_push bytes spans s)

-- one text more
pub texts_push : (spans : List Span) (bytes text : List ℕ) (start : ℕ) → start ≡ length bytes → AreWithin (length bytes) spans
    → texts_in (bytes ++ text) (spans ++ record { start = start; len = length text } ∷ []) ≡ texts_in bytes spans ++ text ∷ []
texts_push spans bytes text start e h =
    map_push (bytes ++ text) spans (record { start = start; len = length text })
    ∙ ap (λ l. l ++ text_in (bytes ++ text) (record { start = start; len = length text }) ∷ []) (texts_same spans bytes text h)
    ∙ ap (λ l. texts_in bytes spans ++ l ∷ []) (ap (λ n. take (length text) (drop n (bytes ++ text))) e ∙ part_last bytes text)

within_more : (spans : List Span) (n m : ℕ) → n ≤ m → AreWithin n spans → AreWithin m spans
within_more [] n m le h = tt
within_more (s ∷ spans) n m le h = (omega (arith, h.0), within_more spans n m le h.1)

all_push : {A : Type 0} (P : A → Type 0) (xs : List A) (x : A) → AllByRecursion P xs → P x → AllByRecursion P (xs ++ x ∷ [])
all_push P [] x h k = (k, tt)
all_push P (y ∷ ys) x h k = (h.0, all_push P ys x h.1 k)

pub within_push : (spans : List Span) (bytes text : List ℕ) (start : ℕ) → start ≡ length bytes → AreWithin (length bytes) spans
    → AreWithin (length (bytes ++ text)) (spans ++ record { start = start; len = length text } ∷ [])
within_push spans bytes text start e h =
    let n = length-append bytes text in
    all_push _ spans (record { start = start; len = length text })
    (within_more spans (length bytes) (length (bytes ++ text)) (omega (arith, n)) h) (omega (arith, n, e))

pub are_push : (spans : List Span) (bytes text : List ℕ) (start : ℕ) → start ≡ length bytes → AreWithin (length bytes) spans
    → AllByRecursion (λ x. IsTrue (is_text x)) (texts_in bytes spans) → IsTrue (is_text text)
    → AllByRecursion (λ x. IsTrue (is_text x)) (texts_in (bytes ++ text) (spans ++ record { start = start; len = length text } ∷ []))
are_push spans bytes text start e h k t =
    rw (texts_push spans bytes text start e h) (all_push (λ (x : List ℕ). IsTrue (is_text x)) (texts_in bytes spans) text k t)

-- the bytes alone are more
pub within_bytes : (spans : List Span) (bytes text : List ℕ) → AreWithin (length bytes) spans → AreWithin (length (bytes ++ text)) spans
within_bytes spans bytes text h = within_more spans (length bytes) (length (bytes ++ text)) (omega (arith, length-append bytes text)) h

pub are_bytes : (spans : List Span) (bytes text : List ℕ) → AreWithin (length bytes) spans
    → AllByRecursion (λ x. IsTrue (is_text x)) (texts_in bytes spans) → AllByRecursion (λ x. IsTrue (is_text x)) (texts_in (bytes ++ text) spans)
are_bytes spans bytes text h k = rw (texts_same spans bytes text h) k

-- a span and its text, by place
pub span_at : (spans : List Span) (n i : ℕ) (s : Span) → AreWithin n spans → slice_get spans i ≡ Some s → s.start + s.len ≤ n
span_at [] n i s h e = absurd cc
span_at (x ∷ spans) n zero s h e = let same : x ≡ s = cc in subst (λ (y : Span). y.start + y.len ≤ n) same h.0
span_at (x ∷ spans) n (suc i) s h e = span_at spans n i s h.1 e

pub text_there : (spans : List Span) (bytes : List ℕ) (i : ℕ) (s : Span) → slice_get spans i ≡ Some s → text_at (texts_in bytes spans) i ≡ text_in bytes s
text_there [] bytes i s e = absurd cc
text_there (x ∷ spans) bytes zero s e = let same : x ≡ s = cc in ap (text_in bytes) same
text_there (x ∷ spans) bytes (suc i) s e = text_there spans bytes i s e

pub text_past : (spans : List Span) (bytes : List ℕ) (i : ℕ) → length spans ≤ i → text_at (texts_in bytes spans) i ≡ []
text_past [] bytes i past = refl
text_past (x ∷ spans) bytes zero past = absurd (omega (arith, past))
text_past (x ∷ spans) bytes (suc i) past = text_past spans bytes i (omega (arith, past))

pub is_text_at : (texts : List (List ℕ)) (i : ℕ) → AllByRecursion (λ x. IsTrue (is_text x)) texts → is_text (text_at texts i) ≡ true
is_text_at [] i h = refl
is_text_at (x ∷ texts) zero h = h.0
is_text_at (x ∷ texts) (suc i) h = is_text_at texts i h.1

-- the text of a span
pub span_is_text : (spans : List Span) (bytes : List ℕ) (i : ℕ) (s d : Span)
    → AllByRecursion (λ x. IsTrue (is_text x)) (texts_in bytes spans) → i < length spans → s ≡ slice_index_or spans i d → IsTrue (is_text (text_in bytes s))
span_is_text [] bytes i s d h lt e = absurd (omega (arith, lt))
span_is_text (x ∷ spans) bytes zero s d h lt e = subst (λ y. IsTrue (is_text (text_in bytes y))) (sym e) h.0
span_is_text (x ∷ spans) bytes (suc i) s d h lt e = span_is_text spans bytes i s d h.1 (omega (arith, lt)) e

pub on_err : {A E P : Type 0} (r : Result A E) → P → OnErr r P
on_err (Ok x) p = tt
on_err (Err e) p = p
