-- What the law of a type gives, and the laws of numbers, lists, options, pairs and records.
use Rattle.keys.specs.Numbers.{Always, IsCode, TellsApart, alone, bit, counted, list_numbers, option_numbers, pair_numbers, turned}
use Rattle.std.proofs.Common.{Bool, List, None, Option, Some, [], ap, append_assoc, append-nil, arith, drop, false}
use Rattle.std.proofs.Common.{if◌then◌else◌, length, refl, sym, true, ℕ, ◌+◌, ◌++◌, ◌==◌, ◌∙◌, ◌∷◌, ◌≡◌}
use Rattle.std.proofs.lemmas.Bool.Decides.{nat_tests}
use Rattle.std.specs.List.{AllByRecursion, flat_map}

-- two values with the same numbers are one
pub same_value : {A : Type 0} (is_value : A → Type 0) (code : A → List ℕ) → IsCode is_value code → (a b : A)
    → is_value a → is_value b → code a ≡ code b → a ≡ b
same_value is_value code is_code a b ha hb e =
    (is_code a b [] [] ha hb (append-nil (code a) ∙ e ∙ sym (append-nil (code b)))).0

-- the numbers of one are the beginning of those of another only where the two are one
pub no_beginning : {A : Type 0} (is_value : A → Type 0) (code : A → List ℕ) → IsCode is_value code → (a b : A) (rest : List ℕ)
    → is_value a → is_value b → code a ++ rest ≡ code b → (a ≡ b) × (rest ≡ [])
no_beginning is_value code is_code a b rest ha hb e = is_code a b rest [] ha hb (e ∙ sym (append-nil (code b)))

-- ---- each type

-- numbers with the same head and the same rest
pub heads : {n m : ℕ} {ns ms : List ℕ} → n ∷ ns ≡ m ∷ ms → n ≡ m
heads e = cc

pub rests : {n m : ℕ} {ns ms : List ℕ} → n ∷ ns ≡ m ∷ ms → ns ≡ ms
rests e = ap (drop 1) e

alone_apart : IsCode Always alone
alone_apart a b more others ha hb e = (heads e, rests e)

pub alone_is_code : TellsApart alone
alone_is_code = record { apart = alone_apart }

numbers_apart : (ns ms more others : List ℕ) → length ns ≡ length ms → ns ++ more ≡ ms ++ others → (ns ≡ ms) × (more ≡ others)
numbers_apart [] [] more others same e = (refl, e)
numbers_apart [] (m ∷ ms) more others same e = absurd (omega (arith, same))
numbers_apart (n ∷ ns) [] more others same e = absurd (omega (arith, same))
numbers_apart (n ∷ ns) (m ∷ ms) more others same e =
    let first : n ≡ m = cc in
    let rest = numbers_apart ns ms more others (omega (arith, same)) (ap (drop 1) e) in
    (λ i. first i ∷ rest.0 i, rest.1)

pub counted_is_code : TellsApart counted
counted_is_code = record { apart = λ ns ms more others hn hm e. numbers_apart ns ms more others (heads e) (rests e) }

-- such a value, if there is one
abbrev pub IsAny : {A : Type 0} → (A → Type 0) → Option A → Type 0
IsAny is_value None = Unit {0}
IsAny is_value (Some x) = is_value x

module _ {A : Type 0} (is_value : A → Type 0) (code : A → List ℕ) (is_code : IsCode is_value code) where
  elements_apart : (xs ys : List A) (more others : List ℕ) → length xs ≡ length ys → AllByRecursion is_value xs → AllByRecursion is_value ys
      → flat_map code xs ++ more ≡ flat_map code ys ++ others → (xs ≡ ys) × (more ≡ others)
  elements_apart [] [] more others same hx hy e = (refl, e)
  elements_apart [] (y ∷ ys) more others same hx hy e = absurd (omega (arith, same))
  elements_apart (x ∷ xs) [] more others same hx hy e = absurd (omega (arith, same))
  elements_apart (x ∷ xs) (y ∷ ys) more others same hx hy e =
      let first = is_code x y (flat_map code xs ++ more) (flat_map code ys ++ others) hx.0 hy.0
      (sym (append_assoc (code x) (flat_map code xs) more) ∙ e ∙ append_assoc (code y) (flat_map code ys) others) in
      let rest = elements_apart xs ys more others (omega (arith, same)) hx.1 hy.1 first.1 in
      (λ i. first.0 i ∷ rest.0 i, rest.1)

  pub list_is_code : IsCode (AllByRecursion is_value) (list_numbers code)
  list_is_code xs ys more others hx hy e = elements_apart xs ys more others (heads e) hx hy (rests e)

  pub option_is_code : IsCode (IsAny is_value) (option_numbers code)
  option_is_code None None more others hx hy e = (refl, ap (drop 1) e)
  option_is_code None (Some y) more others hx hy e = absurd cc
  option_is_code (Some x) None more others hx hy e = absurd cc
  option_is_code (Some x) (Some y) more others hx hy e =
      let both = is_code x y more others hx hy (ap (drop 1) e) in
      (ap (λ v. Some v) both.0, both.1)

module _ {A B : Type 0} (is_a : A → Type 0) (is_b : B → Type 0) (code_a : A → List ℕ) (code_b : B
    → List ℕ) (a_code : IsCode is_a code_a) (b_code : IsCode is_b code_b) where
  pub pair_is_code : IsCode (λ p. is_a p.0 × is_b p.1) (pair_numbers code_a code_b)
  pair_is_code p q more others hp hq e =
      let first = a_code p.0 q.0 (code_b p.1 ++ more) (code_b q.1 ++ others) hp.0 hq.0
      (sym (append_assoc (code_a p.0) (code_b p.1) more) ∙ e ∙ append_assoc (code_a q.0) (code_b q.1) others) in
      let second = b_code p.1 q.1 more others hp.1 hq.1 first.1 in
      ((λ i. (first.0 i, second.0 i)), second.1)

-- values that are told apart by their parts, as records are by their fields
pub made_is_code : {A B : Type 0} (is_value : A → Type 0) (code : A → List ℕ) → IsCode is_value code → (parts : B → A) → ((x y : B)
    → parts x ≡ parts y → x ≡ y)
    → IsCode (λ x. is_value (parts x)) (λ x. code (parts x))
made_is_code is_value code is_code parts apart x y more others hx hy e =
    let both = is_code (parts x) (parts y) more others hx hy e in
    (apart x y both.0, both.1)

-- ---- values of any kind

-- one value, and then another
pub also : {A B : Type 0} {code_a : A → List ℕ} {code_b : B → List ℕ} → TellsApart code_a → TellsApart code_b
    → TellsApart (pair_numbers code_a code_b)
also {A} {B} {code_a} {code_b} a_code b_code = record {
  apart = λ p q more others hp hq e.
      pair_is_code Always Always code_a code_b a_code.apart b_code.apart p q more others (tt, tt) (tt, tt) e;
}

-- values of these parts
pub made_of : {A B : Type 0} {code : A → List ℕ} → TellsApart code → (parts : B → A) → ((x y : B) → parts x ≡ parts y → x ≡ y)
    → TellsApart (λ x. code (parts x))
made_of {A} {B} {code} is_code parts apart = record { apart = made_is_code Always code is_code.apart parts apart }

all_always : {A : Type 0} (xs : List A) → AllByRecursion Always xs
all_always [] = tt
all_always (x ∷ xs) = (tt, all_always xs)

pub lists_of : {A : Type 0} {code : A → List ℕ} → TellsApart code → TellsApart (list_numbers code)
lists_of {A} {code} is_code = record {
  apart = λ xs ys more others hx hy e. list_is_code Always code is_code.apart xs ys more others (all_always xs) (all_always ys) e;
}

any_always : {A : Type 0} (x : Option A) → IsAny Always x
any_always None = tt
any_always (Some x) = tt

pub options_of : {A : Type 0} {code : A → List ℕ} → TellsApart code → TellsApart (option_numbers code)
options_of {A} {code} is_code = record {
  apart = λ x y more others hx hy e. option_is_code Always code is_code.apart x y more others (any_always x) (any_always y) e;
}

-- a number that tells values apart
pub numbered : {A : Type 0} (number : A → ℕ) → ((x y : A) → number x ≡ number y → x ≡ y) → TellsApart (λ x. number x ∷ [])
numbered number apart = made_of alone_is_code number apart

-- flags are told apart by their bits
pub bits_apart : (a b : Bool) → bit a ≡ bit b → a ≡ b
bits_apart true true e = refl
bits_apart true false e = absurd cc
bits_apart false true e = absurd cc
bits_apart false false e = refl

-- and numbers that are turned
pub turned_apart : (n m : ℕ) → turned n ≡ turned m → n ≡ m
turned_apart n m e = by_tests (n == 18446744073709551615) refl (m == 18446744073709551615) refl e where
  by_tests : (b : Bool) → (n == 18446744073709551615) ≡ b → (c : Bool) → (m == 18446744073709551615) ≡ c
      → (if b then 0 else n + 1) ≡ (if c then 0 else m + 1) → n ≡ m
  by_tests true last true greatest e = grind (arith, nat_tests)
  by_tests true last false greatest e = absurd (omega (arith, e))
  by_tests false last true greatest e = absurd (omega (arith, e))
  by_tests false last false greatest e = omega (arith, e)
