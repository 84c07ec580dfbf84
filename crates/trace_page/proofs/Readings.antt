-- What a text makes of a reader of a page.
use Rattle.std.proofs.Common.{Bool, List, [], arith, cond, eqb, false, refl, suc, true, zero, ℕ, ◌%◌, ◌+◌, ◌/◌, ◌∙◌, ◌++◌, ◌<◌, ◌∷◌, ◌≡◌, ◌&&◌, ◌||◌, not, ap}
use Rattle.std.proofs.lemmas.Bool.{lt-ltb, ne_eqb}
use Rattle.std.proofs.lemmas.List.Sums.{fold-append}
use Rattle.std.specs.Fmt.{decimal, digit_glyph, digits, digits_onto}
use Rattle.std.specs.List.{flat_map, list_all}
use Rattle.trace_page.specs.Nesting.{Place, Outside, Quoted, Reader, at, after_byte, read_on}
use Rattle.trace_page.specs.Titles.{is_plain}

-- these bytes bring a reader from here to there
pub record Brings (from : Reader) (bytes : List ℕ) (to : Reader) : Type 0 where
  pub so : read_on from bytes ≡ to

-- and these bring it on
pub on : {from via to : Reader} {xs ys : List ℕ} → Brings from xs via → Brings via ys to → Brings from (xs ++ ys) to
unfolding read_on
on {from} {via} {to} {xs} {ys} h k = record {
  so = fold-append (λ (r : Reader) (b : ℕ). after_byte r.place r.names b) from xs ys ∙ (ap (λ r. read_on r ys) h.so ∙ k.so);
}

pub nothing : {r : Reader} → Brings r [] r
unfolding read_on
nothing = record { so = refl }

-- where no element is begun or ended
pub record Keeps (bytes : List ℕ) : Type 0 where
  pub keeps : (names : List (List ℕ)) → Brings (at Outside names) bytes (at Outside names)

pub both : {xs ys : List ℕ} → Keeps xs → Keeps ys → Keeps (xs ++ ys)
both h k = record { keeps = λ names. on (h.keeps names) (k.keeps names) }

pub none : Keeps []
none = record { keeps = λ names. nothing }

pub keeps_either : {xs ys : List ℕ} (b : Bool) → Keeps xs → Keeps ys → Keeps (cond b xs ys)
keeps_either true h k = h
keeps_either false h k = k

pub keeps_each : {A : Type 0} (f : A → List ℕ) → ((x : A) → Keeps (f x)) → (xs : List A) → Keeps (flat_map f xs)
keeps_each f h [] = none
keeps_each f h (x ∷ xs) = both (h x) (keeps_each f h xs)

-- ---- plain text

-- it has no angle brackets and no quotes
pub record Plain (text : List ℕ) : Type 0 where
  pub plain : list_all is_plain text ≡ true

-- what a plain byte isn't
not_marks : (less more quote mark : Bool) → not (less || (more || (quote || mark))) ≡ true → (less ≡ false) × (more ≡ false) × (mark ≡ false)
not_marks true more quote mark h = absurd (cc)
not_marks false true quote mark h = absurd (cc)
not_marks false false true mark h = absurd (cc)
not_marks false false false true h = absurd (cc)
not_marks false false false false h = (refl, refl, refl)

first_passes : (a b : Bool) → (a && b) ≡ true → (a ≡ true) × (b ≡ true)
first_passes true b h = (refl, h)
first_passes false b h = absurd (cc)

text_read : (names : List (List ℕ)) (b : ℕ) → is_plain b ≡ true → after_byte Outside names b ≡ at Outside names
unfolding after_byte
text_read names b h =
    let marks = not_marks (eqb b 60) (eqb b 62) (eqb b 34) (eqb b 39) h in
    rw (marks.0, marks.1) refl

value_read : (names : List (List ℕ)) (b : ℕ) → is_plain b ≡ true → after_byte (Quoted 39) names b ≡ at (Quoted 39) names
unfolding after_byte
value_read names b h =
    let marks = not_marks (eqb b 60) (eqb b 62) (eqb b 34) (eqb b 39) h in
    rw marks.2 refl

module _ (place : Place) (names : List (List ℕ)) (one : (b : ℕ) → is_plain b ≡ true → after_byte place names b ≡ at place names) where
  stays : (text : List ℕ) → list_all is_plain text ≡ true → read_on (at place names) text ≡ at place names
  unfolding read_on
  stays [] h = refl
  stays (b ∷ bs) h =
      let parts = first_passes (is_plain b) (list_all is_plain bs) h in
      ap (λ r. read_on r bs) (one b parts.0) ∙ stays bs parts.1

-- it keeps a reader outside of all tags there, and one in a value there
pub text_keeps : {text : List ℕ} → Plain text → Keeps text
text_keeps {text} h = record { keeps = λ names. record { so = stays Outside names (text_read names) text h.plain } }

pub in_value : {text : List ℕ} {names : List (List ℕ)} → Plain text → Brings (at (Quoted 39) names) text (at (Quoted 39) names)
in_value {text} {names} h = record { so = stays (Quoted 39) names (value_read names) text h.plain }

-- ---- numbers

plain_digit : (d : ℕ) → d < 10 → is_plain (digit_glyph false d) ≡ true
plain_digit d h =
    rw (
      lt-ltb d 10 h,
      ne_eqb (48 + d) 60 (λ e. omega (arith, h, e)),
      ne_eqb (48 + d) 62 (λ e. omega (arith, h, e)),
      ne_eqb (48 + d) 34 (λ e. omega (arith, e)),
      ne_eqb (48 + d) 39 (λ e. omega (arith, e)),
    )
    refl

plain_digits : (k n : ℕ) (behind : List ℕ) → list_all is_plain behind ≡ true → list_all is_plain (digits_onto k 10 false n behind) ≡ true
plain_digits zero n behind h = h
plain_digits (suc k) n behind h = by (eqb (n / 10) 0)
    (λ (x : list_all is_plain (digit_glyph false (n % 10) ∷ behind) ≡ true). plain_digits k (n / 10) (digit_glyph false (n % 10) ∷ behind) x)
  where
    more : list_all is_plain (digit_glyph false (n % 10) ∷ behind) ≡ true
    more = rw (plain_digit (n % 10) (omega arith)) h

    by : (b : Bool)
        → (list_all is_plain (digit_glyph false (n % 10) ∷ behind) ≡ true
        → list_all is_plain (digits_onto k 10 false (n / 10) (digit_glyph false (n % 10) ∷ behind)) ≡ true)
        → list_all is_plain (cond b (digit_glyph false (n % 10) ∷ behind) (digits_onto k 10 false (n / 10) (digit_glyph false (n % 10) ∷ behind))) ≡ true
    by true later = more
    by false later = later more

pub number : (n : ℕ) → Plain (decimal n)
unfolding digits
number n = record { plain = plain_digits 64 n [] refl }
