-- A list that is walked from key to key, and what each key gives.
use Rattle.pod_sched.specs.Buckets.Order.{Order}
use Rattle.pod_sched.specs.Held.{HasRow}
use Rattle.pod_sched.specs.declared.rows.Known.{Known}
use Rattle.std.proofs.Common.{List, None, Option, Some, [], ap, arith, drop, length, map, refl, slice_get}
use Rattle.std.proofs.Common.{subst, suc, sym, take, zero, ℕ, ◌++◌, ◌+◌, ◌<◌, ◌∙◌, ◌∷◌, ◌≡◌}
use Rattle.std.specs.List.{AllByRecursion}

-- what was told so far, and the key that comes next
pub record IsWalked (f : ℕ → ℕ) (keys told : List ℕ) (next : Option ℕ) : Type 0 where
  pub comes : next ≡ slice_get (drop (length told) keys) 0
  pub so_far : map f keys ≡ told ++ map f (drop (length told) keys)

one_more : (xs : List ℕ) (x : ℕ) → length (xs ++ x ∷ []) ≡ suc (length xs)
one_more [] x = refl
one_more (y ∷ xs) x = ap suc (one_more xs x)

one_then : (xs ys : List ℕ) (x : ℕ) → (xs ++ x ∷ []) ++ ys ≡ xs ++ x ∷ ys
one_then [] ys x = refl
one_then (y ∷ xs) ys x = ap (λ zs. y ∷ zs) (one_then xs ys x)

none_then : (xs : List ℕ) → xs ++ [] ≡ xs
none_then [] = refl
none_then (y ∷ xs) = ap (λ zs. y ∷ zs) (none_then xs)

none_left : (xs : List ℕ) → slice_get xs 0 ≡ None → xs ≡ []
none_left [] none = refl
none_left (x ∷ xs) none = absurd (cc)

rest_is : (keys : List ℕ) (n k : ℕ) → slice_get (drop n keys) 0 ≡ Some k → drop n keys ≡ k ∷ drop (suc n) keys
rest_is [] zero k is = absurd (cc)
rest_is [] (suc n) k is = absurd (cc)
rest_is (x ∷ keys) zero k is = let same : x ≡ k = cc in ap (λ y. y ∷ keys) same
rest_is (x ∷ keys) (suc n) k is = rest_is keys n k is

pub cut_at : (keys : List ℕ) (n k : ℕ) → slice_get (drop n keys) 0 ≡ Some k → keys ≡ take n keys ++ k ∷ drop (suc n) keys
cut_at [] zero k is = absurd (cc)
cut_at [] (suc n) k is = absurd (cc)
cut_at (x ∷ keys) zero k is = let same : x ≡ k = cc in ap (λ y. y ∷ keys) same
cut_at (x ∷ keys) (suc n) k is = ap (λ ys. x ∷ ys) (cut_at keys n k is)

pub passes_at : (P : ℕ → Type 0) (keys : List ℕ) (n k : ℕ) → AllByRecursion P keys → slice_get (drop n keys) 0 ≡ Some k → P k
passes_at P [] zero k all is = absurd (cc)
passes_at P [] (suc n) k all is = absurd (cc)
passes_at P (x ∷ keys) zero k all is = let same : x ≡ k = cc in subst P same all.0
passes_at P (x ∷ keys) (suc n) k all is = passes_at P keys n k all.1 is

pub starts : (f : ℕ → ℕ) (keys told : List ℕ) (next : Option ℕ) → told ≡ [] → next ≡ slice_get keys 0 → IsWalked f keys told next
starts f keys told next none first = rw none (record { comes = first; so_far = refl })

pub ends : (f : ℕ → ℕ) (keys told : List ℕ) (next : Option ℕ) → IsWalked f keys told next → next ≡ None → told ≡ map f keys
ends f keys told next walked none =
    let left : drop (length told) keys ≡ [] = none_left (drop (length told) keys) (sym walked.comes ∙ none) in
    sym (walked.so_far ∙ ap (λ ys. told ++ map f ys) left ∙ none_then told)

module _ (f : ℕ → ℕ) (keys told : List ℕ) (next : Option ℕ) (k : ℕ) (walked : IsWalked f keys told next) (is : next ≡ Some k) where
  here : slice_get (drop (length told) keys) 0 ≡ Some k
  here = sym walked.comes ∙ is

  pub cut : keys ≡ take (length told) keys ++ k ∷ drop (suc (length told)) keys
  cut = cut_at keys (length told) k here

  pub has_row : (rows : List Known) (order : Order) → AllByRecursion (HasRow rows order) keys → HasRow rows order k
  has_row rows order all = passes_at (HasRow rows order) keys (length told) k all here

  module _ (more : List ℕ) (more_is : more ≡ told ++ f k ∷ []) where
    longer : length more ≡ suc (length told)
    longer = ap (λ (xs : List ℕ). length xs) more_is ∙ one_more told (f k)

    rest : drop (length told) keys ≡ k ∷ drop (length more) keys
    rest = rest_is keys (length told) k here ∙ ap (λ n. k ∷ drop n keys) (sym longer)

    pub smaller : length (drop (length more) keys) < length (drop (length told) keys)
    smaller = omega (arith, ap (λ (xs : List ℕ). length xs) rest)

    pub goes_on : (then : Option ℕ) → then ≡ slice_get (drop (suc (length told)) keys) 0 → IsWalked f keys more then
    goes_on then then_is = record {
      comes = then_is ∙ ap (λ n. slice_get (drop n keys) 0) (sym longer);
      so_far =
          walked.so_far
          ∙ ap (λ ys. told ++ map f ys) rest
          ∙ sym (one_then told (map f (drop (length more) keys)) (f k))
          ∙ ap (λ xs. xs ++ map f (drop (length more) keys)) (sym more_is);
    }
