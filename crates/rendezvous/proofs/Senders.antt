-- Who sent the letters to a thread, key by key.
use Rattle.lwp_types.specs.declared.rows.Letter.{Letter}
use Rattle.lwp_types.specs.State.{passes}
use Rattle.rendezvous.specs.Slots.{keys_from}
use Rattle.std.proofs.Common.{Bool, List, None, Option, Some, [], ap, arith, cond, drop, get_or, length, map, refl, slice_get}
use Rattle.std.proofs.Common.{suc, take, zero, ℕ, ◌+◌, ◌-◌, ◌++◌, ◌<◌, ◌∙◌, ◌∷◌, ◌≡◌, ◌≤◌, true, false}
use Rattle.std.specs.List.{filter}
use Rattle.lists.specs.Living.{living}

-- the sender, or 0 where there is no letter
abbrev pub from_or : Option Letter → ℕ
from_or None = 0
from_or (Some letter) = letter.from

-- the sender of the letter that a key is of
abbrev pub sender_of : ℕ → List (Option Letter) → ℕ → ℕ
sender_of n slots key = from_or (get_or slots (key - n) None)

told_by : (f : ℕ → ℕ) (n : ℕ) (p : Letter → Bool) (slots : List (Option Letter)) → ((i : ℕ) → f (n + i) ≡ from_or (get_or slots i None))
    → map f (keys_from n p slots) ≡ map (λ (l : Letter). l.from) (filter p (living slots))
told_by f n p [] agree = refl
told_by f n p (None ∷ slots) agree = told_by f (suc n) p slots (λ i. let next : suc n + i ≡ n + suc i = omega arith in ap f next ∙ agree (suc i))
told_by f n p (Some l ∷ slots) agree =
    by_test (told_by f (suc n) p slots (λ i. let next : suc n + i ≡ n + suc i = omega arith in ap f next ∙ agree (suc i))) (p l)
  where
    here : f n ≡ l.from
    here = let same : n ≡ n + 0 = omega arith in ap f same ∙ agree 0

    by_test : map f (keys_from (suc n) p slots) ≡ map (λ (m : Letter). m.from) (filter p (living slots)) → (b : Bool)
        → map f (cond b (n ∷ keys_from (suc n) p slots) (keys_from (suc n) p slots))
        ≡ map (λ (m : Letter). m.from) (cond b (l ∷ filter p (living slots)) (filter p (living slots)))
    by_test rest true = rw here (ap (λ ys. l.from ∷ ys) rest)
    by_test rest false = rest

pub told : (n : ℕ) (p : Letter → Bool) (slots : List (Option Letter))
    → map (sender_of n slots) (keys_from n p slots) ≡ map (λ (l : Letter). l.from) (filter p (living slots))
told n p slots = told_by (sender_of n slots) n p slots (λ i. let same : (n + i) - n ≡ i = omega arith in ap (λ j. from_or (get_or slots j None)) same)

-- what a key says
pub record IsKey (n : ℕ) (p : Letter → Bool) (slots : List (Option Letter)) (key : ℕ) : Type 0 where
  pub place : ℕ
  pub is : key ≡ n + place
  pub within : place < length slots
  pub passed : passes p (get_or slots place None) ≡ true

pub a_key : (n : ℕ) (p : Letter → Bool) (slots : List (Option Letter)) (i key : ℕ) → slice_get (keys_from n p slots) i ≡ Some key → IsKey n p slots key
a_key n p [] i key is = absurd (cc)
a_key n p (o ∷ slots) i key is = by_test (λ j later. a_key (suc n) p slots j key later) i (passes p o) refl is
  where
    later_key : IsKey (suc n) p slots key → IsKey n p (o ∷ slots) key
    later_key k = record { place = suc k.place; is = omega (arith, k.is); within = omega (arith, k.within); passed = k.passed }

    by_test : ((j : ℕ) → slice_get (keys_from (suc n) p slots) j ≡ Some key → IsKey (suc n) p slots key) → (i : ℕ) (b : Bool)
        → passes p o ≡ b → slice_get (cond b (n ∷ keys_from (suc n) p slots) (keys_from (suc n) p slots)) i ≡ Some key → IsKey n p (o ∷ slots) key
    by_test rest zero true e is = let same : n ≡ key = cc in record { place = 0; is = omega (arith, same); within = omega arith; passed = e }
    by_test rest (suc i) true e is = later_key (rest i is)
    by_test rest i false e is = later_key (rest i is)

pub few_keys : (n : ℕ) (p : Letter → Bool) (slots : List (Option Letter)) → length (keys_from n p slots) ≤ length slots
few_keys n p [] = omega arith
few_keys n p (o ∷ slots) = by_test (few_keys (suc n) p slots) (passes p o)
  where
    by_test : length (keys_from (suc n) p slots) ≤ length slots → (b : Bool)
        → length (cond b (n ∷ keys_from (suc n) p slots) (keys_from (suc n) p slots)) ≤ suc (length slots)
    by_test rest true = omega (arith, rest)
    by_test rest false = omega (arith, rest)

-- ---- a list of numbers, cut at one of them

pub cut : (ks : List ℕ) (i k : ℕ) → slice_get ks i ≡ Some k → ks ≡ take i ks ++ k ∷ drop (suc i) ks
cut [] i k is = absurd (cc)
cut (x ∷ ks) zero k is = let same : x ≡ k = cc in ap (λ y. y ∷ ks) same
cut (x ∷ ks) (suc i) k is = ap (λ ys. x ∷ ys) (cut ks i k is)

pub first_behind : (ks : List ℕ) (i : ℕ) → slice_get (drop i ks) 0 ≡ slice_get ks i
first_behind [] zero = refl
first_behind [] (suc i) = refl
first_behind (x ∷ ks) zero = refl
first_behind (x ∷ ks) (suc i) = first_behind ks i

pub take_one : (f : ℕ → ℕ) (ks : List ℕ) (i k : ℕ) → slice_get ks i ≡ Some k → map f (take (suc i) ks) ≡ map f (take i ks) ++ f k ∷ []
take_one f [] i k is = absurd (cc)
take_one f (x ∷ ks) zero k is = let same : x ≡ k = cc in ap (λ y. f y ∷ []) same
take_one f (x ∷ ks) (suc i) k is = ap (λ ys. f x ∷ ys) (take_one f ks i k is)

pub take_whole : (ks : List ℕ) (i : ℕ) → slice_get ks i ≡ None → take i ks ≡ ks
take_whole [] zero none = refl
take_whole [] (suc i) none = refl
take_whole (x ∷ ks) zero none = absurd (cc)
take_whole (x ∷ ks) (suc i) none = ap (λ ys. x ∷ ys) (take_whole ks i none)

pub none_past : (ks : List ℕ) (i : ℕ) → length ks ≤ i → slice_get ks i ≡ None
none_past [] i past = refl
none_past (x ∷ ks) zero past = absurd (omega (arith, past))
none_past (x ∷ ks) (suc i) past = none_past ks i (omega (arith, past))
