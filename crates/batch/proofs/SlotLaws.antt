-- Slots that are filled one by one.
use Rattle.batch.specs.Slots.{Fit, IsRight}
use Rattle.std.proofs.Common.{All, List, None, Option, Some, Vec, [], ap, arith, get_or, length, map, refl, slice_get, subst, suc, sym, take}
use Rattle.std.proofs.Common.{vec_items, zero, ℕ, ◌++◌, ◌+◌, ◌<◌, ◌∙◌, ◌∷◌, ◌≡◌}
use Rattle.std.proofs.Math.ListN.{set}
use Rattle.std.proofs.lemmas.List.{map-append, take_more}
use Rattle.std.proofs.lemmas.Option.{get_or_from_slice_get, slice_get-get_or, slice_get_within}

-- empty slots
pub fit-empty : {A : Type 0} (wanted : List (List ℕ)) (slots : List (Option (Vec ℕ A))) → length slots ≡ length wanted
    → All (λ slot. slot ≡ None) slots → Fit wanted slots
fit-empty [] [] same none = tt
fit-empty [] (s ∷ ss) same none = absurd (omega (arith, same))
fit-empty (w ∷ ws) [] same none = absurd (omega (arith, same))
fit-empty (w ∷ ws) (s ∷ ss) same none =
    let first : s ≡ None = none 0 s (omega arith) in (
      subst (IsRight w) (sym first) tt,
      fit-empty ws ss (omega (arith, same)) (λ k d lt. none (suc k) d (omega (arith, lt))),
    )

-- a slot is filled with the answer that is wanted there
pub fit-set : {A : Type 0} (wanted : List (List ℕ)) (slots : List (Option (Vec ℕ A))) (n : ℕ) (answer : Vec ℕ A) → Fit wanted slots
    → slice_get wanted n ≡ Some answer.items
    → Fit wanted (set slots n (Some answer))
fit-set [] [] n answer fit is = tt
fit-set [] (s ∷ ss) n answer fit is = absurd fit
fit-set (w ∷ ws) [] n answer fit is = absurd fit
fit-set (w ∷ ws) (s ∷ ss) zero answer fit is = (let same : Some w ≡ Some answer.items = is in cc, fit.1)
fit-set (w ∷ ws) (s ∷ ss) (suc n) answer fit is = (fit.0, fit-set ws ss n answer fit.1 is)

-- a slot is emptied
pub fit-unset : {A : Type 0} (wanted : List (List ℕ)) (slots : List (Option (Vec ℕ A))) (n : ℕ) → Fit wanted slots → Fit wanted (set slots n None)
fit-unset [] [] n fit = tt
fit-unset [] (s ∷ ss) n fit = absurd fit
fit-unset (w ∷ ws) [] n fit = absurd fit
fit-unset (w ∷ ws) (s ∷ ss) zero fit = (tt, fit.1)
fit-unset (w ∷ ws) (s ∷ ss) (suc n) fit = (fit.0, fit-unset ws ss n fit.1)

-- what is in a slot is wanted there
pub fit-at : {A : Type 0} (wanted : List (List ℕ)) (slots : List (Option (Vec ℕ A))) (n : ℕ) (d : Option (Vec ℕ A)) (answer : Vec ℕ A)
    → Fit wanted slots → n < length slots
    → get_or slots n d ≡ Some answer → answer.items ≡ get_or wanted n []
fit-at [] [] n d answer fit lt is = absurd (omega (arith, lt))
fit-at [] (s ∷ ss) n d answer fit lt is = absurd fit
fit-at (w ∷ ws) [] n d answer fit lt is = absurd fit
fit-at (w ∷ ws) (s ∷ ss) zero d answer fit lt is = subst (IsRight w) is fit.0
fit-at (w ∷ ws) (s ∷ ss) (suc n) d answer fit lt is = fit-at ws ss n d answer fit.1 (omega (arith, lt)) is

-- there are as many as are wanted
pub fit-length : {A : Type 0} (wanted : List (List ℕ)) (slots : List (Option (Vec ℕ A))) → Fit wanted slots → length slots ≡ length wanted
fit-length [] [] fit = refl
fit-length [] (s ∷ ss) fit = absurd fit
fit-length (w ∷ ws) [] fit = absurd fit
fit-length (w ∷ ws) (s ∷ ss) fit = let rest = fit-length ws ss fit.1 in omega (arith, rest)

-- the first answers, and one more
pub more_answers : {A : Type 0} (wanted : List (List ℕ)) (n : ℕ) (answers more : List (Vec ℕ A)) (answer : Vec ℕ A)
    → map vec_items answers ≡ take n wanted → slice_get wanted n ≡ Some answer.items
    → more ≡ answers ++ answer ∷ [] → map vec_items more ≡ take (n + 1) wanted
more_answers wanted n answers more answer first is pushed =
    ap (map vec_items) pushed
    ∙ map-append vec_items answers (answer ∷ [])
    ∙ ap (λ xs. xs ++ answer.items ∷ []) first
    ∙ ap (λ x. take n wanted ++ x ∷ []) (sym (get_or_from_slice_get wanted n answer.items [] is))
    ∙ sym (take_more wanted n [] (slice_get_within wanted n answer.items is))

-- what stood in a slot is the answer that is wanted there
pub slot-answer : {A : Type 0} (wanted : List (List ℕ)) (slots : List (Option (Vec ℕ A))) (n : ℕ) (d : Option (Vec ℕ A)) (answer : Vec ℕ A)
    → Fit wanted slots → n < length slots
    → get_or slots n d ≡ Some answer → slice_get wanted n ≡ Some answer.items
slot-answer wanted slots n d answer fit lt is =
    let many = fit-length wanted slots fit in
    slice_get-get_or wanted n [] (omega (arith, many, lt)) ∙ ap (λ xs. Some xs) (sym (fit-at wanted slots n d answer fit lt is))
