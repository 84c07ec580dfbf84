-- A key at the end of one of several lists: that list has it, the others are as they were.
use Rattle.lists.specs.ChainLists.{after_push}
use Rattle.std.proofs.Common.{List, [], ap, arith, get_or, length, refl, suc, zero, ℕ, ◌++◌, ◌<◌, ◌∷◌, ◌≡◌, ◌≢◌}

pub length-pushed : (l k : ℕ) (lists : List (List ℕ)) → length (after_push l k lists) ≡ length lists
length-pushed l k [] = refl
length-pushed zero k (xs ∷ lists) = refl
length-pushed (suc l) k (xs ∷ lists) = ap suc (length-pushed l k lists)

pub items_pushed_same : (l k : ℕ) (lists : List (List ℕ)) → l < length lists → get_or (after_push l k lists) l [] ≡ get_or lists l [] ++ k ∷ []
items_pushed_same l k [] inside = absurd (omega arith)
items_pushed_same zero k (xs ∷ lists) inside = refl
items_pushed_same (suc l) k (xs ∷ lists) inside = items_pushed_same l k lists (omega arith)

pub items_pushed_other : (l k i : ℕ) (lists : List (List ℕ)) → i ≢ l → get_or (after_push l k lists) i [] ≡ get_or lists i []
items_pushed_other l k i [] differs = refl
items_pushed_other zero k zero (xs ∷ lists) differs = absurd (differs refl)
items_pushed_other zero k (suc i) (xs ∷ lists) differs = refl
items_pushed_other (suc l) k zero (xs ∷ lists) differs = refl
items_pushed_other (suc l) k (suc i) (xs ∷ lists) differs = items_pushed_other l k i lists (λ same. differs (ap suc same))
