-- How long the line of a post is, and what is counted.
use Rattle.itoa.proofs.Decimal.{length_one, length_pair, length_two}
use Rattle.lwp_live.specs.Input.{Standing, after_arrival, counted, has_room, post_line}
use Rattle.lwp_live.specs.declared.arrival.Arrival.{Arrival}
use Rattle.lwp_types.specs.TextFields.{is_printable, is_text}
use Rattle.std.proofs.Common.{Bool, List, [], ap, arith, false, length, length-append, nat_lt, refl, set, slice_index_or, suc, sym, true, true≢false, zero}
use Rattle.std.proofs.Common.{ℕ, ◌&&◌, ◌+◌, ◌++◌, ◌/◌, ◌<◌, ◌∙◌, ◌∷◌, ◌≡◌, ◌≤◌}
use Rattle.std.proofs.lemmas.Bool.{le-leb, leb-true, ltb-true}
use Rattle.std.specs.Prelude.{codes, decimal, nat_le}
use Rattle.trace_text.specs.Lines.{with_space}

-- ---- lengths

-- a number of three digits that fits a byte
pub length_three : (n : ℕ) → 100 ≤ n → n < 256 → length (decimal n) ≡ 3
length_three n low high = length_pair n low (omega (arith, high)) ∙ ap (λ k. k + 2) (length_one (n / 100) (omega (arith, high)))

pub length_space : (text : List ℕ) → 0 < length text → length (with_space text) ≡ length text + 1
length_space [] some = absurd (omega (arith, some))
length_space (b ∷ bs) some = omega arith

pub no_space : (text : List ℕ) → length text ≡ 0 → length (with_space text) ≡ 0
no_space [] none = refl
no_space (b ∷ bs) none = absurd (omega (arith, none))

pub length_line : (a : Arrival) → length (post_line a) ≡ 5 + length (decimal a.client) + length (with_space a.text) + 1
length_line a =
    let one = length-append (decimal a.client) (with_space a.text ++ 10 ∷ []) in
    let two = length-append (with_space a.text) (10 ∷ []) in
    let all = length-append (codes "post ") (decimal a.client ++ (with_space a.text ++ 10 ∷ [])) in
    omega (arith, one, two, all)

space_long : (text : List ℕ) → length text ≤ length (with_space text)
space_long [] = omega arith
space_long (b ∷ bs) = omega arith

pub text_short : (a : Arrival) (n : ℕ) → n + length (post_line a) ≤ 16777216 → length a.text ≤ 16777216
text_short a n h = let l = length_line a in let s = space_long a.text in omega (arith, h, l, s)

-- ---- room

both_true : (a b : Bool) → (a && b) ≡ true → (a ≡ true) × (b ≡ true)
both_true true b e = (refl, e)
both_true false b e = absurd (true≢false (sym e))

pub room_parts : (s : Standing) (a : Arrival) → has_room s a ≡ true
    → (slice_index_or s.counts a.client 20000 < 20000) × (s.size + length (post_line a) ≤ 16777216)
room_parts s a e =
    let parts = both_true (nat_lt (slice_index_or s.counts a.client 20000) 20000) (nat_le (s.size + length (post_line a)) 16777216) e in
    (ltb-true (slice_index_or s.counts a.client 20000) 20000 parts.0, leb-true (s.size + length (post_line a)) 16777216 parts.1)

-- ---- counts

pub set_counted : (ns : List ℕ) (c n : ℕ) → c < length ns → n ≡ slice_index_or ns c 20000 + 1 → set ns c n ≡ counted c ns
set_counted [] c n low is = absurd (omega (arith, low))
set_counted (m ∷ ns) zero n low is = ap (λ k. k ∷ ns) (is ∙ omega arith)
set_counted (m ∷ ns) (suc c) n low is = ap (λ ks. m ∷ ks) (set_counted ns c n (omega (arith, low)) is)

pub inside : (ns : List ℕ) (c : ℕ) → slice_index_or ns c 20000 < 20000 → c < length ns
inside [] c low = absurd (omega (arith, low))
inside (n ∷ ns) zero low = omega arith
inside (n ∷ ns) (suc c) low = let l = inside ns c low in omega (arith, l)

pub one_digit : (n : ℕ) → n < 10 → length (decimal n) ≡ 1
one_digit n low = length_one n low

pub two_digits : (n : ℕ) → 10 ≤ n → n < 100 → length (decimal n) ≡ 2
two_digits n low high = length_two n low high
