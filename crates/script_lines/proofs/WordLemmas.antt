-- Facts on bytes, words and numbers.
use Rattle.std.proofs.Common.{◌≡◌, ℕ, suc, ◌+◌, ◌-◌, ◌*◌, ◌^◌, ◌<◌, ◌≤◌, Bool, true, false, not, ◌&&◌, cond, eqb, ltb, leb, List, [], ◌∷◌}
use Rattle.std.proofs.Common.{◌++◌, length, get_or, drop, Option, Some, None, refl, sym, ap, ◌∙◌, arith, rules, inl, inr, drop-cons}
use Rattle.std.proofs.lemmas.Bool.{cases_lt, le-leb, le-ltb, lt-ltb, ltb-true, ne_eqb, eqb-false}
use Rattle.std.proofs.lemmas.Option.{cond_some}
use Rattle.std.proofs.lemmas.Str.Parse.{IsNumeralModel, numerals_by_fold}
use Rattle.std.proofs.lemmas.Fmt.{digits_decimal, digits_value-decimal, decimal-digits_value, first_decimal, decimal_digit, decimal_nonempty}
use Rattle.std.specs.Fmt.{decimal}
use Rattle.std.specs.Str.{all_ascii_digits}
use Rattle.std.specs.List.{list_all}
use Rattle.std.proofs.lemmas.Bool.Decides.{nat_tests}
use Rattle.lwp_types.specs.TextFields.{is_printable, is_text}
use Rattle.script_lines.specs.Words.{reach, is_lowercase, is_name_byte, is_reserved, is_name, value_after, value_of, is_misshapen, number_at}

pub both : (a b : Bool) → (a && b) ≡ true → (a ≡ true) × (b ≡ true)
both true b h = (refl, h)
both false b h = absurd cc

pub and_false : (a : Bool) → (a && false) ≡ false
and_false true = refl
and_false false = refl

-- ---- Where a word ends.

-- the list is empty or begins with this byte
abbrev pub Stops : ℕ → List ℕ → Type 0
Stops c [] = Unit {0}
Stops c (b ∷ bs) = b ≡ c

pub reach-append : (c : ℕ) (w r : List ℕ) → reach c w ≡ length w → Stops c r → reach c (w ++ r) ≡ length w
reach-append c [] [] h s = refl
reach-append c [] (b ∷ r) h s = grind arith
reach-append c (x ∷ w) r h s = elim (eqb x c) as (λ v. cond v 0 (suc (reach c w)) ≡ suc (length w) → cond v 0 (suc (reach c (w ++ r))) ≡ suc (length w)) [
  | true ↦ λ e. absurd (omega (arith, e))
  | false ↦ λ e. let h' : reach c w ≡ length w = omega (arith, e) in ap suc (reach-append c w r h' s)
] h

-- where a word ends within a list, it ends there too where more follows
pub reach_in : (c : ℕ) (w r : List ℕ) → reach c w < length w → reach c (w ++ r) ≡ reach c w
reach_in c [] r h = absurd (omega (arith, h))
reach_in c (b ∷ bs) r h =
    elim (eqb b c) as (λ v. cond v 0 (suc (reach c bs)) < length (b ∷ bs) → cond v 0 (suc (reach c (bs ++ r))) ≡ cond v 0 (suc (reach c bs))) [
      | true ↦ λ e. refl
      | false ↦ λ e. ap suc (reach_in c bs r (omega (arith, e)))
    ] h

-- ---- Numbers.

-- digits after a number never make it smaller
pub value_ge : (n : ℕ) (ds : List ℕ) → n ≤ value_after n ds
value_ge n [] = omega arith
value_ge n (d ∷ ds) = omega (arith, value_ge (10 * n + (d - 48)) ds)

pub value_of_too_large : (n i : ℕ) (ds : List ℕ) → i < length ds → value_after n (drop i ds) ≡ value_after 0 ds
    → 2 ^ 32 ≤ 10 * n + (get_or ds i 0 - 48) → None ≡ value_of ds
value_of_too_large n i ds lt e big =
    let step : value_after n (drop i ds) ≡ value_after (10 * n + (get_or ds i 0 - 48)) (drop (suc i) ds) = ap (value_after n) (drop-cons ds i 0 lt) in
    let all : 2 ^ 32 ≤ value_after 0 ds = omega (arith, value_ge (10 * n + (get_or ds i 0 - 48)) (drop (suc i) ds)) in
    let f : ltb (value_after 0 ds) (2 ^ 32) ≡ false = le-ltb _ _ all in
    rw (f, and_false (all_ascii_digits ds)) refl

pub own : IsNumeralModel (λ ds. all_ascii_digits ds ≡ true) (value_after 0)
own = numerals_by_fold _ (search rules) value_after (search rules)

-- where a test that gives up has not
pub unless_none : {A : Type 0} (b : Bool) (o : Option A) (y : A) → cond b None o ≡ Some y → (b ≡ false) × (o ≡ Some y)
unless_none true o y e = absurd cc
unless_none false o y e = (refl, e)

well_shaped : (w : List ℕ) → 0 < length w → (get_or w 0 0 ≡ 48 → length w ≡ 1) → is_misshapen w ≡ false
well_shaped [] lt h = absurd (omega arith)
well_shaped (d ∷ []) lt h = refl
well_shaped (d ∷ x ∷ ds) lt h = ne_eqb d 48 (λ z. let p = h z in omega arith)

shape_of : (w : List ℕ) → is_misshapen w ≡ false → (0 < length w) × (get_or w 0 0 ≡ 48 → length w ≡ 1)
shape_of [] e = absurd cc
shape_of (d ∷ []) e = (omega arith, λ z. refl)
shape_of (d ∷ x ∷ ds) e = (omega arith, λ z. absurd (eqb-false d 48 e z))

decimal_shape : (n : ℕ) → n < 2 ^ 32 → get_or (decimal n) 0 0 ≡ 48 → length (decimal n) ≡ 1
decimal_shape n lt z = elim (cases_lt 0 n) [
  | inl pos ↦ absurd (omega (arith, first_decimal n pos (omega arith)))
  | inr le ↦ rw (decimal_digit n (omega arith)) refl
]

-- a written number is read
pub number_again : (n : ℕ) → n < 2 ^ 32 → number_at (decimal n) ≡ Some n
number_again n lt =
    let ds : all_ascii_digits (decimal n) ≡ true = digits_decimal own n (omega arith) in
    let v : value_after 0 (decimal n) ≡ n = digits_value-decimal own n (omega arith) in
    let below : ltb n (2 ^ 32) ≡ true = lt-ltb n (2 ^ 32) lt in
    let fine : is_misshapen (decimal n) ≡ false = well_shaped (decimal n) (decimal_nonempty n (omega arith)) (decimal_shape n lt) in
    rw (fine, ds, v, below) refl

-- a number that is read was written so
pub number_found : (w : List ℕ) (n : ℕ) → number_at w ≡ Some n → (w ≡ decimal n) × (n < 2 ^ 32)
number_found w n e =
    let a = unless_none (is_misshapen w) (value_of w) n e in
    let b = cond_some (all_ascii_digits w && ltb (value_after 0 w) (2 ^ 32)) (value_after 0 w) n a.1 in
    let t = both (all_ascii_digits w) (ltb (value_after 0 w) (2 ^ 32)) b.0 in
    let below : value_after 0 w < 2 ^ 32 = ltb-true _ _ t.1 in
    let s = shape_of w a.0 in
    let d : decimal (value_after 0 w) ≡ w = decimal-digits_value own w t.0 s.0 s.1 (omega arith) in
    (sym d ∙ ap decimal b.1, omega (arith, b.1))

-- ---- Names.

name_byte_is_printable : (b : ℕ) → is_name_byte b ≡ true → (leb 32 b && leb b 126) ≡ true
name_byte_is_printable b h = grind (arith, nat_tests)

name_bytes_are_printable : (bs : List ℕ) → list_all is_name_byte bs ≡ true → is_printable bs ≡ true
name_bytes_are_printable [] h = refl
name_bytes_are_printable (b ∷ bs) h =
    let t = both (is_name_byte b) (list_all is_name_byte bs) h in
    rw (name_byte_is_printable b t.0, name_bytes_are_printable bs t.1) refl

lowercase_is_printable : (b : ℕ) → is_lowercase b ≡ true → (leb 32 b && leb b 126) ≡ true
lowercase_is_printable b h = grind (arith, nat_tests)

-- a name is a text
pub name_is_text : (w : List ℕ) → is_name w ≡ true → is_text w ≡ true
name_is_text [] h = absurd cc
name_is_text (b ∷ bs) h =
    let u = both (is_lowercase b && list_all is_name_byte bs && ltb (length bs) 16) (not (is_reserved (b ∷ bs))) h in
    let v = both (is_lowercase b && list_all is_name_byte bs) (ltb (length bs) 16) u.0 in
    let t = both (is_lowercase b) (list_all is_name_byte bs) v.0 in
    let short : leb (length (b ∷ bs)) 240 ≡ true = le-leb _ _ (omega (arith, ltb-true (length bs) 16 v.1)) in
    rw (short, lowercase_is_printable b t.0, name_bytes_are_printable bs t.1) refl
