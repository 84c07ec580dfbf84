-- What numbers and words of a line are read as.
use Rattle.lwp_types.specs.Names.{null_id}
use Rattle.std.proofs.Common.{Bool, List, Some, [], ap, arith, cond, drop, eqb, false, length, refl, rules}
use Rattle.std.proofs.Common.{suc, sym, true, ℕ, ◌&&◌, ◌++◌, ◌<◌, ◌∙◌, ◌∷◌, ◌≡◌, ◌≤◌, ◌^◌, codes}
use Rattle.std.proofs.lemmas.Bool.{lt-ltb, eq-eqb, eqb-true, eqb-false}
use Rattle.std.proofs.lemmas.Fmt.{decimal_nonempty, digits_decimal, digits_value-decimal}
use Rattle.std.proofs.lemmas.List.{append-nil, drop_at, take_at}
use Rattle.std.proofs.lemmas.Str.Parse.{IsNumeralModel, numerals_by_fold}
use Rattle.std.specs.Char.{is_ascii_digit}
use Rattle.std.specs.Fmt.{decimal}
use Rattle.std.specs.Str.{all_ascii_digits}
use Rattle.trace_lines.specs.Entries.{id_of, who_of}
use Rattle.trace_lines.specs.Words.{behind, digits, number, reach, rest, starts, value_after, value_of, whole_number}
use Rattle.trace_text.specs.Lines.{id_text, thread_text, who_text}

both : (a b : Bool) → (a && b) ≡ true → (a ≡ true) × (b ≡ true)
both true b h = (refl, h)
both false b h = absurd cc

own : IsNumeralModel (λ ds. all_ascii_digits ds ≡ true) (value_after 0)
own = numerals_by_fold _ (search rules) value_after (search rules)

-- no digit stands in front
abbrev pub EndsDigits : List ℕ → Type 0
EndsDigits [] = Unit {0}
EndsDigits (b ∷ bs) = is_ascii_digit b ≡ false

digits_append : (ds r : List ℕ) → all_ascii_digits ds ≡ true → EndsDigits r → digits (ds ++ r) ≡ length ds
digits_append [] [] h e = refl
digits_append [] (b ∷ r) h e = rw e refl
digits_append (d ∷ ds) r h e =
    let t = both (is_ascii_digit d) (all_ascii_digits ds) h in
    rw t.0 (ap suc (digits_append ds r t.1 e))

digits_of : (n : ℕ) (r : List ℕ) → n < 2 ^ 64 → EndsDigits r → digits (decimal n ++ r) ≡ length (decimal n)
digits_of n r lt e = digits_append (decimal n) r (digits_decimal own n lt) e

whole : (ds : List ℕ) (n : ℕ) → 0 < length ds → value_after 0 ds ≡ n → n < 2 ^ 64 → value_of ds ≡ Some n
whole [] n some v lt = absurd (omega arith)
whole (d ∷ ds) n some v lt = rw (v, lt-ltb n (2 ^ 64) lt) refl

pub number_again : (n : ℕ) (r : List ℕ) → n < 2 ^ 64 → EndsDigits r → number (decimal n ++ r) ≡ Some n
number_again n r lt e =
    rw (digits_of n r lt e, take_at (decimal n) r (length (decimal n)) refl) (whole (decimal n) n (decimal_nonempty n lt) (digits_value-decimal own n lt) lt)

pub behind_again : (n : ℕ) (r : List ℕ) → n < 2 ^ 64 → EndsDigits r → behind (decimal n ++ r) ≡ r
behind_again n r lt e = rw (digits_of n r lt e) (drop_at (decimal n) r (length (decimal n)) refl)

pub number_alone : (n : ℕ) → n < 2 ^ 64 → number (decimal n) ≡ Some n
number_alone n lt = ap number (sym (append-nil (decimal n))) ∙ number_again n [] lt tt

pub whole_alone : (n : ℕ) → n < 2 ^ 64 → whole_number (decimal n) ≡ Some n
whole_alone n lt =
    let all : digits (decimal n) ≡ length (decimal n) = ap digits (sym (append-nil (decimal n))) ∙ digits_of n [] lt tt in
    rw (eq-eqb (digits (decimal n)) (length (decimal n)) all) (number_alone n lt)

-- ---- ids

pub id_again : (b n : ℕ) (r : List ℕ) → n ≤ null_id → EndsDigits r → id_of (id_text (b ∷ []) n ++ r) ≡ n
id_again b n r le e = by_null (eqb n null_id) refl
  where
    by_null : (v : Bool) → eqb n null_id ≡ v → id_of (cond v (codes "none") (b ∷ decimal n) ++ r) ≡ n
    by_null true h = sym (eqb-true n null_id h)
    by_null false h =
        let lt : n < 2 ^ 64 = omega (arith, eqb-false n null_id h) in
        rw (number_again n r lt e) refl

pub id_alone : (b n : ℕ) → n ≤ null_id → id_of (id_text (b ∷ []) n) ≡ n
id_alone b n le = ap id_of (sym (append-nil (id_text (b ∷ []) n))) ∙ id_again b n [] le tt

pub who_again : (t u : ℕ) (r : List ℕ) → u ≤ null_id → EndsDigits r → who_of t (who_text (Some t) u ++ r) ≡ u
who_again t u r le e = by_self (eqb t u) refl
  where
    by_null : (v : Bool) → eqb u null_id ≡ v → who_of t (cond v (codes "none") (116 ∷ decimal u) ++ r) ≡ u
    by_null true h = sym (eqb-true u null_id h)
    by_null false h =
        let lt : u < 2 ^ 64 = omega (arith, eqb-false u null_id h) in
        rw (number_again u r lt e) refl

    by_self : (v : Bool) → eqb t u ≡ v → who_of t (cond v (codes "self") (thread_text u) ++ r) ≡ u
    by_self true h = eqb-true t u h
    by_self false h = by_null (eqb u null_id) refl

pub who_alone : (t u : ℕ) → u ≤ null_id → who_of t (who_text (Some t) u) ≡ u
who_alone t u le = ap (who_of t) (sym (append-nil (who_text (Some t) u))) ∙ who_again t u [] le tt

-- ---- words

pub reach-append : (w r : List ℕ) → reach 32 w ≡ length w → reach 32 (w ++ 32 ∷ r) ≡ length w
reach-append [] r h = refl
reach-append (x ∷ w) r h = by_head (eqb x 32) h (λ e. reach-append w r e)
  where
    by_head : (v : Bool) → cond v 0 (suc (reach 32 w)) ≡ suc (length w) → (reach 32 w ≡ length w → reach 32 (w ++ 32 ∷ r) ≡ length w)
        → cond v 0 (suc (reach 32 (w ++ 32 ∷ r))) ≡ suc (length w)
    by_head true e later = absurd (omega (arith, e))
    by_head false e later = ap suc (later (omega (arith, e)))

drop_behind : (w r : List ℕ) → drop (suc (length w)) (w ++ 32 ∷ r) ≡ r
drop_behind [] r = refl
drop_behind (x ∷ w) r = drop_behind w r

pub rest_again : (w r : List ℕ) → reach 32 w ≡ length w → rest (w ++ 32 ∷ r) ≡ r
rest_again w r h = rw (reach-append w r h) (drop_behind w r)

digits_are_whole : (ds : List ℕ) → all_ascii_digits ds ≡ true → reach 32 ds ≡ length ds
digits_are_whole [] h = refl
digits_are_whole (d ∷ ds) h =
    let t = both (is_ascii_digit d) (all_ascii_digits ds) h in
    by_head (eqb d 32) refl t.0 (digits_are_whole ds t.1)
  where
    by_head : (v : Bool) → eqb d 32 ≡ v → is_ascii_digit d ≡ true → reach 32 ds ≡ length ds → cond v 0 (suc (reach 32 ds)) ≡ suc (length ds)
    by_head true h g e = absurd (let f : false ≡ true = sym (ap is_ascii_digit (eqb-true d 32 h)) ∙ g in cc)
    by_head false h g e = ap suc e

pub number_is_word : (n : ℕ) → n < 2 ^ 64 → reach 32 (decimal n) ≡ length (decimal n)
number_is_word n lt = digits_are_whole (decimal n) (digits_decimal own n lt)

-- a letter of a kind and a number are one word
pub id_is_word : (b n : ℕ) → eqb b 32 ≡ false → n ≤ null_id → reach 32 (id_text (b ∷ []) n) ≡ length (id_text (b ∷ []) n)
id_is_word b n other le = by_null (eqb n null_id) refl
  where
    by_null : (v : Bool) → eqb n null_id ≡ v → reach 32 (cond v (codes "none") (b ∷ decimal n)) ≡ length (cond v (codes "none") (b ∷ decimal n))
    by_null true h = refl
    by_null false h =
        let lt : n < 2 ^ 64 = omega (arith, eqb-false n null_id h) in
        rw other (ap suc (number_is_word n lt))

-- what begins with another byte than a digit isn't in front of a number
not_in_front : (b : ℕ) (bs ds r : List ℕ) → is_ascii_digit b ≡ false → all_ascii_digits ds ≡ true → 0 < length ds → starts (b ∷ bs) (ds ++ r) ≡ false
not_in_front b bs [] r other h some = absurd (omega arith)
not_in_front b bs (d ∷ ds) r other h some = by_head (eqb b d) refl (both (is_ascii_digit d) (all_ascii_digits ds) h).0
  where
    by_head : (v : Bool) → eqb b d ≡ v → is_ascii_digit d ≡ true → (v && starts bs (ds ++ r)) ≡ false
    by_head true e g = absurd (let f : false ≡ true = sym other ∙ ap is_ascii_digit (eqb-true b d e) ∙ g in cc)
    by_head false e g = refl

pub not_number_on : (b : ℕ) (bs : List ℕ) (n : ℕ) (r : List ℕ) → n < 2 ^ 64 → is_ascii_digit b ≡ false → starts (b ∷ bs) (decimal n ++ r) ≡ false
not_number_on b bs n r lt other = not_in_front b bs (decimal n) r other (digits_decimal own n lt) (decimal_nonempty n lt)

pub not_number : (b : ℕ) (bs : List ℕ) (n : ℕ) → n < 2 ^ 64 → is_ascii_digit b ≡ false → starts (b ∷ bs) (decimal n) ≡ false
not_number b bs n lt other = ap (starts (b ∷ bs)) (sym (append-nil (decimal n))) ∙ not_number_on b bs n [] lt other
