-- What a number is in decimal, its last two digits taken together.
use Rattle.std.proofs.Common.{List, [], ap, arith, get_or, suc, sym, zero, ℕ, ◌++◌, ◌+◌, ◌/◌, ◌%◌, ◌<◌, ◌≤◌, ◌∙◌, ◌∷◌, ◌≡◌}
use Rattle.std.proofs.lemmas.Fmt.{decimal_digit, decimal_step}
use Rattle.std.proofs.lemmas.List.{append_assoc}
use Rattle.std.specs.Fmt.{decimal}
use Rattle.trace_text.specs.Pairs.{pair_of, pairs_from}

-- the pair at a place
pub pair_at : (default : List ℕ) (k count n : ℕ) → n < count → get_or (pairs_from k count) n default ≡ pair_of (k + n)
pair_at default k zero n lt = absurd (omega (arith, lt))
pair_at default k (suc count) zero lt = ap pair_of (omega arith)
pair_at default k (suc count) (suc n) lt = pair_at default (k + 1) count n (omega (arith, lt)) ∙ ap pair_of (omega arith)

-- a number of two digits
pub decimal_of_two : (n : ℕ) → 10 ≤ n → n < 100 → decimal n ≡ pair_of n
decimal_of_two n least most =
    decimal_step n least (omega (arith, most))
    ∙ ap (λ ds. ds ++ (48 + n % 10) ∷ []) (decimal_digit (n / 10) (omega (arith, most)))

-- bytes put one by one
pub two_behind : (from last : List ℕ) (a b : ℕ) → last ≡ (from ++ a ∷ []) ++ b ∷ [] → last ≡ from ++ a ∷ b ∷ []
two_behind from last a b put = put ∙ append_assoc from (a ∷ []) (b ∷ [])

-- a number of more than two digits: how many hundreds it has, and the last two digits
pub decimal_of_hundreds : (n : ℕ) → 100 ≤ n → n < 1000000 → decimal n ≡ decimal (n / 100) ++ pair_of (n % 100)
decimal_of_hundreds n least most =
    let hundreds : n / 10 / 10 ≡ n / 100 = omega arith in
    let ten : n / 10 % 10 ≡ n % 100 / 10 = omega arith in
    let one : n % 10 ≡ n % 100 % 10 = omega arith in
    let ones : decimal n ≡ decimal (n / 10) ++ (48 + n % 10) ∷ [] = decimal_step n (omega (arith, least)) (omega (arith, most)) in
    let tens : decimal (n / 10) ≡ decimal (n / 10 / 10) ++ (48 + n / 10 % 10) ∷ [] = decimal_step (n / 10) (omega (arith, least)) (omega (arith, most)) in
    two_behind (decimal (n / 100)) (decimal n) (48 + n % 100 / 10) (48 + n % 100 % 10)
    (ones ∙ ap (λ d. decimal (n / 10) ++ (48 + d) ∷ []) one
    ∙ ap (λ ds. ds ++ (48 + n % 100 % 10) ∷ [])
    (tens ∙ ap (λ m. decimal m ++ (48 + n / 10 % 10) ∷ []) hundreds ∙ ap (λ d. decimal (n / 100) ++ (48 + d) ∷ []) ten))

-- the last two digits put after the others
pub put_behind : (from last : List ℕ) (n : ℕ) → 100 ≤ n → n < 1000000 → last ≡ (from ++ decimal (n / 100)) ++ pair_of (n % 100) → last ≡ from ++ decimal n
put_behind from last n least most put =
    put
    ∙ append_assoc from (decimal (n / 100)) (pair_of (n % 100))
    ∙ ap (λ ds. from ++ ds) (sym (decimal_of_hundreds n least most))
