-- A number says which digits it has.
use Rattle.std.proofs.Common.{Bool, List, None, Some, [], ap, arith, cond, drop, false, get_or, length, refl}
use Rattle.std.proofs.Common.{subst, suc, sym, true, zero, ℕ, ◌+◌, ◌*◌, ◌-◌, ◌<◌, ◌∙◌, ◌∷◌, ◌≡◌, ◌≤◌}
use Rattle.std.proofs.lemmas.Bool.{lt-ltb, ltb-true}
use Rattle.std.proofs.lemmas.List.{drop_more, length-drop}
use Rattle.std.specs.Cmp.{first_so, second_so}
use Rattle.std.specs.Prelude.{◌&&◌, nat_lt, nat_le}
use Rattle.script_text.specs.PackedWords.{is_digit, is_full, of_digits, word_number}

pub record InDigits (b : ℕ) : Type 0 where
  pub some : 0 < b
  pub few : b < 256

pub digit : (b : ℕ) → is_digit b ≡ true → InDigits b
digit b h = record {
  some = ltb-true 0 b (first_so (nat_lt 0 b) (nat_lt b 256) h);
  few = ltb-true b 256 (second_so (nat_lt 0 b) (nat_lt b 256) h);
}

-- two words with the same number are one word
pub same_word : (v w : List ℕ) → is_full v ≡ true → is_full w ≡ true → of_digits v ≡ of_digits w → v ≡ w
same_word [] [] hv hw e = refl
same_word [] (c ∷ cs) hv hw e = let d = digit c (first_so (is_digit c) (is_full cs) hw) in absurd (omega (arith, d.some, e))
same_word (b ∷ bs) [] hv hw e = let d = digit b (first_so (is_digit b) (is_full bs) hv) in absurd (omega (arith, d.some, e))
same_word (b ∷ bs) (c ∷ cs) hv hw e =
    let x = digit b (first_so (is_digit b) (is_full bs) hv) in
    let y = digit c (first_so (is_digit c) (is_full cs) hw) in
    let first : b ≡ c = omega (arith, x.few, y.few, e) in
    let rest : bs ≡ cs = same_word bs cs (second_so (is_digit b) (is_full bs) hv) (second_so (is_digit c) (is_full cs) hw) (omega (arith, x.few, y.few, e)) in
    λ i. first i ∷ rest i

packed-full : (w : List ℕ) (n : ℕ) → word_number w ≡ Some n → (is_full w ≡ true) × (of_digits w ≡ n)
packed-full w n e = by (nat_le (length w) 16) (is_full w) refl e
  where
    by : (a b : Bool) → is_full w ≡ b → cond (a && b) (Some (of_digits w)) None ≡ Some n → (is_full w ≡ true) × (of_digits w ≡ n)
    by true true h e = (h, cc)
    by true false h e = absurd cc
    by false b h e = absurd cc

pub same_packed : (v w : List ℕ) (n : ℕ) → word_number v ≡ Some n → word_number w ≡ Some n → v ≡ w
same_packed v w n ev ew =
    let x = packed-full v n ev in
    let y = packed-full w n ew in
    same_word v w x.0 y.0 (x.1 ∙ sym y.1)

-- ---- a number that is read from its last digit on

-- so many digits count up to this
abbrev pub most : ℕ → ℕ
most zero = 1
most (suc k) = 256 * most k

most-some : (k : ℕ) → 1 ≤ most k
most-some zero = omega arith
most-some (suc k) = omega (arith, most-some k)

-- few digits make no great number
small : (k : ℕ) (w : List ℕ) → is_full w ≡ true → length w ≤ k → of_digits w < most k
small zero [] h few = omega arith
small zero (b ∷ bs) h few = absurd (omega (arith, few))
small (suc k) [] h few = omega (arith, most-some (suc k))
small (suc k) (b ∷ bs) h few =
    let d = digit b (first_so (is_digit b) (is_full bs) h) in
    omega (arith, d.few, small k bs (second_so (is_digit b) (is_full bs) h) (omega (arith, few)))

back : (word : List ℕ) (at : ℕ) → 0 < at → at ≤ length word → drop (at - 1) word ≡ get_or word (at - 1) 0 ∷ drop at word
back word zero some within = absurd (omega (arith, some))
back word (suc i) some within =
    let less : suc i - 1 ≡ i = omega arith in
    let more : i + 1 ≡ suc i = omega arith in
    subst (λ j. drop j word ≡ get_or word j 0 ∷ drop (suc i) word) (sym less)
    (drop_more word i 0 (omega (arith, within)) ∙ ap (λ j. get_or word i 0 ∷ drop j word) more)

both : (a b : Bool) → a ≡ true → b ≡ true → (a && b) ≡ true
both true true e f = refl
both true false e f = absurd cc
both false b e f = absurd cc

-- one digit more
pub record ReadMore (word : List ℕ) (number at byte : ℕ) : Type 0 where
  pub digits : number * 256 + byte ≡ of_digits (drop (at - 1) word)
  pub full : is_full (drop (at - 1) word) ≡ true
  pub fits : number * 256 + byte < 340282366920938463463374607431768211456

pub read_more : (word : List ℕ) (number at byte : ℕ) → 0 < at → at ≤ length word → length word ≤ 16 → byte ≡ get_or word (at - 1) 0
    → 0 < byte → byte < 256 → number ≡ of_digits (drop at word) → is_full (drop at word) ≡ true → ReadMore word number at byte
read_more word number at byte some within short here more few digits full =
    let step = back word at some within in
    let is : is_digit byte ≡ true = both (nat_lt 0 byte) (nat_lt byte 256) (lt-ltb 0 byte more) (lt-ltb byte 256 few) in
    let all : is_full (drop (at - 1) word)
    ≡ true = ap is_full step ∙ both (is_digit (get_or word (at - 1) 0)) (is_full (drop at word)) (ap is_digit (sym here) ∙ is) full in
    let sum : of_digits (drop (at - 1) word) ≡ get_or word (at - 1) 0 + 256 * of_digits (drop at word) = ap of_digits step in
    let same : number * 256 + byte ≡ of_digits (drop (at - 1) word) = omega (arith, sum, here, digits) in
    record {
      digits = same;
      full = all;
      fits = omega (arith, same, small 16 (drop (at - 1) word) all (omega (arith, length-drop (at - 1) word, short)));
    }
