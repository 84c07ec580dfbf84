-- One more post, and one more round.
use Rattle.std.proofs.Common.{◌≡◌, ℕ, zero, suc, ◌+◌, ◌*◌, List, ◌++◌, sym, ap, ◌∙◌, arith, add-one, append_assoc}
use native.Mathlib.Nat.{suc-mul}
use Rattle.lwp_serve.specs.Maker.Draws.{next}
use Rattle.lwp_serve.specs.Maker.Made.{post_line, past, round, rounds}

-- the state after one more post
pub past_one : (x n s t : ℕ) → s ≡ past x n → t ≡ past s 1 → t ≡ past x (n + 1)
past_one x n s t e f = f ∙ ap (λ y. next (next y)) e ∙ ap (past x) (sym (add-one n))

past_past : (x m n : ℕ) → past (past x m) n ≡ past x (m + n)
past_past x m zero = ap (past x) (let e : m ≡ m + 0 = omega arith in e)
past_past x m (suc n) = ap (λ y. next (next y)) (past_past x m n) ∙ ap (past x) (let e : suc (m + n) ≡ m + suc n = omega arith in e)

-- the state after one more round
pub past_round : (seed threads n s t : ℕ) → s ≡ past seed (n * threads) → t ≡ past s threads → t ≡ past seed ((n + 1) * threads)
past_round seed threads n s t e f =
    f ∙ ap (λ y. past y threads) e ∙ past_past seed (n * threads) threads ∙ ap (past seed) (sym (ap (λ m. m * threads) (add-one n) ∙ suc-mul n threads))

-- one more post of a round
pub round_post : (x i n m s : ℕ) (old before new : List ℕ) → s ≡ past x n → m ≡ n → before ≡ old ++ round n x i
    → new ≡ before ++ post_line s i m → new ≡ old ++ round (n + 1) x i
round_post x i n m s old before new e same b f =
    f
    ∙ ap (λ (l : List ℕ). l ++ post_line s i m) b
    ∙ append_assoc old (round n x i) (post_line s i m)
    ∙ ap (λ y. old ++ (round n x i ++ post_line y i m)) e
    ∙ ap (λ y. old ++ (round n x i ++ post_line (past x n) i y)) same
    ∙ ap (λ y. old ++ round y x i) (sym (add-one n))

-- one more round
pub rounds_round : (seed threads n m s : ℕ) (old before new : List ℕ) → s ≡ past seed (n * threads) → m ≡ n
    → before ≡ old ++ rounds seed threads n → new ≡ before ++ round threads s m → new ≡ old ++ rounds seed threads (n + 1)
rounds_round seed threads n m s old before new e same b f =
    f
    ∙ ap (λ (l : List ℕ). l ++ round threads s m) b
    ∙ append_assoc old (rounds seed threads n) (round threads s m)
    ∙ ap (λ y. old ++ (rounds seed threads n ++ round threads y m)) e
    ∙ ap (λ y. old ++ (rounds seed threads n ++ round threads (past seed (n * threads)) y)) same
    ∙ ap (λ y. old ++ rounds seed threads y) (sym (add-one n))
