-- The lines of a text, one after the other.
use Rattle.std.proofs.Common.{List, [], ap, arith, cond, drop, eqb, false, length, refl, suc, sym, take, true, zero, ℕ, ◌++◌, ◌+◌, ◌∷◌, ◌≡◌, ◌≤◌}
use Rattle.corpus.specs.Lines.{first_of, line_end, lines, onto_first}

-- lines joined are the text
abbrev pub joined : List (List ℕ) → List ℕ
joined [] = []
joined (l ∷ ls) = l ++ joined ls

onto_joins : (b : ℕ) → (ls : List (List ℕ)) → joined (onto_first b ls) ≡ b ∷ joined ls
onto_joins b [] = refl
onto_joins b (l ∷ ls) = refl

lines_join : (t : List ℕ) → joined (lines t) ≡ t
lines_join [] = refl
lines_join (b ∷ bs) = elim (eqb b 10) as (λ v. joined (cond v ((b ∷ []) ∷ lines bs) (onto_first b (lines bs))) ≡ b ∷ bs) [
  | true ↦ ap (λ xs. b ∷ xs) (lines_join bs)
  | false ↦ rw (onto_joins b (lines bs)) (ap (λ xs. b ∷ xs) (lines_join bs))
]

-- texts with the same lines are the same
lines_tell : (s t : List ℕ) → lines s ≡ lines t → s ≡ t
lines_tell s t same = rw (← lines_join s) (rw same (lines_join t))

-- a text with something in it has a first line with something in it
line_end-some : (b : ℕ) → (bs : List ℕ) → 1 ≤ line_end (b ∷ bs)
line_end-some b bs = elim (eqb b 10) as (λ v. 1 ≤ cond v 1 (suc (line_end bs))) [
  | true ↦ omega arith
  | false ↦ omega arith
]

-- a byte before a text that goes on
goes_on : (b : ℕ) → (bs : List ℕ) → lines bs ≡ take (line_end bs) bs ∷ lines (drop (line_end bs) bs)
    → onto_first b (lines bs) ≡ (b ∷ take (line_end bs) bs) ∷ lines (drop (line_end bs) bs)
goes_on b bs is = rw is refl

-- the first of a text's lines, and the others
lines_split : (b : ℕ) → (bs : List ℕ) → lines (b ∷ bs) ≡ take (line_end (b ∷ bs)) (b ∷ bs) ∷ lines (drop (line_end (b ∷ bs)) (b ∷ bs))
lines_split b [] = elim (eqb b 10) as (λ v. cond v ((b ∷ []) ∷ []) ((b ∷ []) ∷ []) ≡ take (cond v 1 1) (b ∷ []) ∷ lines (drop (cond v 1 1) (b ∷ []))) [
  | true ↦ refl
  | false ↦ refl
]
lines_split b (c ∷ cs) = elim (eqb b 10) as
    (λ v. cond v ((b ∷ []) ∷ lines (c ∷ cs)) (onto_first b (lines (c ∷ cs)))
    ≡ take (cond v 1 (suc (line_end (c ∷ cs)))) (b ∷ c ∷ cs) ∷ lines (drop (cond v 1 (suc (line_end (c ∷ cs)))) (b ∷ c ∷ cs))) [
      | true ↦ refl
      | false ↦ goes_on b (c ∷ cs) (lines_split c cs)
    ]

-- the first of a text's lines
pub first_is : (t : List ℕ) → first_of (lines t) ≡ take (line_end t) t
first_is [] = refl
first_is (b ∷ bs) = ap first_of (lines_split b bs)

-- the others are the lines after it
others_are : (t : List ℕ) → drop 1 (lines t) ≡ lines (drop (line_end t) t)
others_are [] = refl
others_are (b ∷ bs) = ap (λ ls. drop 1 ls) (lines_split b bs)

-- a line with something in it, as a list of lines
abbrev pub kept : List ℕ → List (List ℕ)
kept [] = []
kept (b ∷ bs) = (b ∷ bs) ∷ []

one_line : (b : ℕ) → (bs : List ℕ) → take (line_end (b ∷ bs)) (b ∷ bs) ∷ [] ≡ kept (take (line_end (b ∷ bs)) (b ∷ bs))
one_line b bs = elim (eqb b 10) as (λ v. take (cond v 1 (suc (line_end bs))) (b ∷ bs) ∷ [] ≡ kept (take (cond v 1 (suc (line_end bs))) (b ∷ bs))) [
  | true ↦ refl
  | false ↦ refl
]

one_is : (t : List ℕ) → take 1 (lines t) ≡ kept (take (line_end t) t)
one_is [] = refl
one_is (b ∷ bs) = rw (← one_line b bs) (ap (λ ls. take 1 ls) (lines_split b bs))

take_next : (n : ℕ) → (ls : List (List ℕ)) → take (suc n) ls ≡ take n ls ++ take 1 (drop n ls)
take_next zero [] = refl
take_next zero (l ∷ ls) = refl
take_next (suc n) [] = refl
take_next (suc n) (l ∷ ls) = ap (λ xs. l ∷ xs) (take_next n ls)

drop_next : (n : ℕ) → (ls : List (List ℕ)) → drop (suc n) ls ≡ drop 1 (drop n ls)
drop_next zero ls = refl
drop_next (suc n) [] = refl
drop_next (suc n) (l ∷ ls) = drop_next n ls

-- where the next lines are the same too, one line more is the same
pub one_more_same : (n : ℕ) → (found wanted : List (List ℕ)) → (s t : List ℕ) → take n found ≡ take n wanted → drop n found ≡ lines s
    → drop n wanted ≡ lines t →
    take (line_end s) s ≡ take (line_end t) t → take (suc n) found ≡ take (suc n) wanted
one_more_same n found wanted s t same left other line = rw (take_next n found, take_next n wanted, left, other, one_is s, one_is t, same, line) refl

-- and the later lines are those of the rest of the text
pub one_more_left : (n : ℕ) → (found : List (List ℕ)) → (s : List ℕ) → drop n found ≡ lines s → drop (suc n) found ≡ lines (drop (line_end s) s)
one_more_left n found s left = rw (drop_next n found, left) (others_are s)

take_whole : (n : ℕ) → (ls : List (List ℕ)) → drop n ls ≡ [] → take n ls ≡ ls
take_whole zero ls none = sym none
take_whole (suc n) [] none = refl
take_whole (suc n) (l ∷ ls) none = ap (λ xs. l ∷ xs) (take_whole n ls none)

-- where no line is left in either, the texts are the same
pub all_same : (n : ℕ) → (s t : List ℕ) → take n (lines s) ≡ take n (lines t) → drop n (lines s) ≡ [] → drop n (lines t) ≡ [] → s ≡ t
all_same n s t same none nor = lines_tell s t (rw (take_whole n (lines s) none, take_whole n (lines t) nor) at same)

-- a line that is the same as that of a text with something in it is none that ended before it began
pub has_byte : (s t : List ℕ) → 1 ≤ length s + length t → take (line_end s) s ≡ take (line_end t) t → 1 ≤ line_end s
has_byte [] [] some same = absurd (omega arith)
has_byte [] (c ∷ cs) some same = elim (eqb c 10) as (λ v. [] ≡ take (cond v 1 (suc (line_end cs))) (c ∷ cs) → 1 ≤ 0) [
  | true ↦ λ none. absurd cc
  | false ↦ λ none. absurd cc
] same
has_byte (b ∷ bs) t some same = line_end-some b bs
