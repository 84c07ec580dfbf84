-- The numbers of a list, each where it comes first, one more after the other.
use Rattle.lwp_explore.specs.Listing.{first_place, has_number, listed_in, numbers_in}
use Rattle.lwp_explore.specs.declared.listing.Listed.{Listed}
use Rattle.std.proofs.Common.{Bool, List, None, Option, Some, [], ap, arith, eqb, false, get_or, length, map, not, refl, suc, sym, take, true, zero, ℕ}
use Rattle.std.proofs.Common.{◌++◌, ◌+◌, ◌<◌, ◌∙◌, ◌∷◌, ◌≡◌, ◌||◌}
use Rattle.std.proofs.lemmas.Bool.{eq-eqb, eqb-false, eqb-true, false≢true, ne_eqb}
use Rattle.std.proofs.lemmas.List.{map-append}
use Rattle.std.specs.List.{count_by, filter, list_any}
use Rattle.std.specs.Prelude.{cond, if◌then◌else◌, ◌==◌}

-- a list without a number
abbrev without : ℕ → List ℕ → List ℕ
without n xs = filter (λ m. not (m == n)) xs

without_append : (n : ℕ) (xs ys : List ℕ) → without n (xs ++ ys) ≡ without n xs ++ without n ys
without_append n [] ys = refl
without_append n (x ∷ xs) ys = by (not (x == n)) (without_append n xs ys)
  where
    by : (b : Bool) → without n (xs ++ ys) ≡ without n xs ++ without n ys
        → cond b (x ∷ without n (xs ++ ys)) (without n (xs ++ ys)) ≡ cond b (x ∷ without n xs) (without n xs) ++ without n ys
    by true h = ap (λ l. x ∷ l) h
    by false h = h

pub other_way : (n k : ℕ) → (k == n) ≡ (n == k)
other_way n k = by (eqb n k) refl
  where
    by : (b : Bool) → eqb n k ≡ b → (k == n) ≡ (n == k)
    by true e = eq-eqb k n (sym (eqb-true n k e)) ∙ sym e
    by false e = ne_eqb k n (λ same. eqb-false n k e (sym same)) ∙ sym e

any_without : (n k : ℕ) → (n == k) ≡ false → (xs : List ℕ) → list_any (λ m. m == k) (without n xs) ≡ list_any (λ m. m == k) xs
any_without n k other [] = refl
any_without n k other (x ∷ xs) = by (x == n) refl (any_without n k other xs)
  where
    by : (b : Bool) → (x == n) ≡ b → list_any (λ m. m == k) (without n xs) ≡ list_any (λ m. m == k) xs
        → list_any (λ m. m == k) (cond (not b) (x ∷ without n xs) (without n xs)) ≡ (x == k) || list_any (λ m. m == k) xs
    by true e h = h ∙ ap (λ t. t || list_any (λ m. m == k) xs) (sym (ap (λ y. y == k) (eqb-true x n e) ∙ other))
    by false e h = ap (λ t. (x == k) || t) h

-- a number is among those where it is at all
pub among : (k : ℕ) (os : List (Option ℕ)) → list_any (λ m. m == k) (numbers_in os) ≡ list_any (has_number k) os
among k [] = refl
among k (None ∷ os) = among k os
among k (Some n ∷ os) = by (n == k) refl (among k os)
  where
    by : (b : Bool) → (n == k) ≡ b → list_any (λ m. m == k) (numbers_in os) ≡ list_any (has_number k) os
        → (n == k) || list_any (λ m. m == k) (without n (numbers_in os)) ≡ (n == k) || list_any (has_number k) os
    by true e h = ap (λ t. t || list_any (λ m. m == k) (without n (numbers_in os))) e ∙ sym (ap (λ t. t || list_any (has_number k) os) e)
    by false e h = ap (λ t. (n == k) || t) (any_without n k e (numbers_in os) ∙ h)

-- ---- one more

abbrev new_in : List (Option ℕ) → ℕ → List ℕ
new_in os k = if list_any (has_number k) os then [] else k ∷ []

pub push_none : (os : List (Option ℕ)) → numbers_in (os ++ None ∷ []) ≡ numbers_in os
push_none [] = refl
push_none (None ∷ os) = push_none os
push_none (Some n ∷ os) = ap (λ l. n ∷ without n l) (push_none os)

pub push_some : (k : ℕ) (os : List (Option ℕ)) → numbers_in (os ++ Some k ∷ []) ≡ numbers_in os ++ new_in os k
push_some k [] = refl
push_some k (None ∷ os) = push_some k os
push_some k (Some n ∷ os) =
    ap (λ l. n ∷ without n l) (push_some k os)
    ∙ ap (λ l. n ∷ l) (without_append n (numbers_in os) (new_in os k) ∙ ap (λ l. without n (numbers_in os) ++ l) (by (list_any (has_number k) os)))
  where
    by_same : (b : Bool) → (n == k) ≡ b → without n (k ∷ []) ≡ (if b || false then [] else k ∷ [])
    by_same true e = ap (λ t. cond (not t) (k ∷ []) []) (other_way n k ∙ e)
    by_same false e = ap (λ t. cond (not t) (k ∷ []) []) (other_way n k ∙ e)

    by : (b : Bool) → without n (if b then [] else k ∷ []) ≡ (if (n == k) || b then [] else k ∷ [])
    by true = ap (λ t. if t then [] else k ∷ []) (sym (or_true (n == k)))
      where
        or_true : (t : Bool) → t || true ≡ true
        or_true true = refl
        or_true false = refl
    by false = by_same (n == k) refl ∙ refl

-- ---- as they are listed

any_listed : (os : List (Option ℕ)) (k : ℕ) (xs : List ℕ) → list_any (λ (l : Listed). l.number == k) (map (listed_in os) xs) ≡ list_any (λ m. m == k) xs
any_listed os k [] = refl
any_listed os k (x ∷ xs) = ap (λ t. (x == k) || t) (any_listed os k xs)

-- one is listed already where it came before
pub is_known : (os pre : List (Option ℕ)) (k : ℕ) (held : List Listed) → held ≡ map (listed_in os) (numbers_in pre)
    → list_any (λ (l : Listed). l.number == k) held ≡ list_any (has_number k) pre
is_known os pre k held is = ap (list_any (λ (l : Listed). l.number == k)) is ∙ any_listed os k (numbers_in pre) ∙ among k pre

take_one : (os : List (Option ℕ)) (i : ℕ) → i < length os → take (suc i) os ≡ take i os ++ get_or os i None ∷ []
take_one [] i low = absurd (omega (arith, low))
take_one (o ∷ os) zero low = refl
take_one (o ∷ os) (suc i) low = ap (λ l. o ∷ l) (take_one os i (omega (arith, low)))

-- the first place of a number that did not come before
first_at : (k : ℕ) (os : List (Option ℕ)) (i : ℕ) → i < length os → list_any (has_number k) (take i os) ≡ false → get_or os i None ≡ Some k
    → first_place k os ≡ i
first_at k [] i low none is = absurd (omega (arith, low))
first_at k (o ∷ os) zero low none is = ap (λ p. first_place k (p ∷ os)) is ∙ ap (λ b. cond b 0 (suc (first_place k os))) (eq-eqb k k refl)
first_at k (o ∷ os) (suc i) low none is = by (has_number k o) none (λ h. first_at k os i (omega (arith, low)) h is)
  where
    by : (b : Bool) → b || list_any (has_number k) (take i os) ≡ false → (list_any (has_number k) (take i os) ≡ false → first_place k os ≡ i)
        → cond b 0 (suc (first_place k os)) ≡ suc i
    by true h rest = absurd (false≢true (sym h))
    by false h rest = ap suc (rest h)

module _ (os : List (Option ℕ)) (place : ℕ) (low : place < length os) where
  next : take (place + 1) os ≡ take place os ++ get_or os place None ∷ []
  next = let on : place + 1 ≡ suc place = omega arith in ap (λ n. take n os) on ∙ take_one os place low

  -- there is none at the place
  pub none_more : (held : List Listed) → held ≡ map (listed_in os) (numbers_in (take place os)) → get_or os place None ≡ None
      → held ≡ map (listed_in os) (numbers_in (take (place + 1) os))
  none_more held was is = was ∙ ap (map (listed_in os))
      (sym (push_none (take place os)) ∙ ap numbers_in (ap (λ o. take place os ++ o ∷ []) (sym is) ∙ sym next))

  module _ (k : ℕ) (is : get_or os place None ≡ Some k) where
    after : numbers_in (take (place + 1) os) ≡ numbers_in (take place os) ++ new_in (take place os) k
    after = ap numbers_in (next ∙ ap (λ o. take place os ++ o ∷ []) is) ∙ push_some k (take place os)

    -- it came before
    pub known_more : (held : List Listed) → held ≡ map (listed_in os) (numbers_in (take place os)) → list_any (λ (l : Listed). l.number == k) held ≡ true
        → held ≡ map (listed_in os) (numbers_in (take (place + 1) os))
    known_more held was there =
        was ∙ ap (map (listed_in os)) (sym (no_more (numbers_in (take place os)))
        ∙ ap (λ b. numbers_in (take place os) ++ (if b then [] else k ∷ [])) (sym (sym (is_known os (take place os) k held was) ∙ there)) ∙ sym after)
      where
        no_more : (xs : List ℕ) → xs ++ [] ≡ xs
        no_more [] = refl
        no_more (x ∷ xs) = ap (λ l. x ∷ l) (no_more xs)

    -- it is the first
    pub new_more : (held new : List Listed) (count : ℕ) → held ≡ map (listed_in os) (numbers_in (take place os))
        → list_any (λ (l : Listed). l.number == k) held ≡ false → count ≡ count_by (has_number k) os
        → new ≡ held ++ record { number = k; first = place; cores = count } ∷ []
        → new ≡ map (listed_in os) (numbers_in (take (place + 1) os))
    new_more held new count was none many put =
        let not_before = sym (is_known os (take place os) k held was) ∙ none in
        put ∙ (λ i. was i ++ record { number = k; first = sym (first_at k os place low not_before is) i; cores = many i } ∷ [])
        ∙ sym (map-append (listed_in os) (numbers_in (take place os)) (k ∷ []))
        ∙ ap (map (listed_in os)) (ap (λ b. numbers_in (take place os) ++ (if b then [] else k ∷ [])) (sym not_before) ∙ sym after)
