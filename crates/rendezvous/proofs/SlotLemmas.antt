-- Slots: what they have once a letter is added, goes or is received, and which letter is the first.
use Rattle.lwp_types.specs.CountLaws.{count-cons, one}
use Rattle.lwp_types.specs.Messages.{is_letter_of, letters_of}
use Rattle.lwp_types.specs.State.{passes}
use Rattle.lwp_types.specs.declared.rows.Letter.{Letter}
use Rattle.rendezvous.specs.Slots.{IsFirstAt, keys_from}
use Rattle.lists.specs.ChainLists.{without}
use Rattle.std.proofs.Common.{Bool, List, None, Option, Some, [], ap, arith, cond, eqb, false, get_or, is_some, length, refl}
use Rattle.std.proofs.Common.{set, slice_get, suc, sym, take, true, zero, ℕ, ◌++◌, ◌+◌, ◌<◌, ◌∙◌, ◌∷◌, ◌≡◌, ◌≢◌, ◌≤◌}
use Rattle.std.proofs.lemmas.Bool.{eq-eqb, ne_eqb}
use Rattle.std.specs.List.{filter, find, remove}
use Rattle.lists.specs.Living.{living}

-- the letter, where there is one
abbrev pub as_list : Option Letter → List Letter
as_list None = []
as_list (Some letter) = letter ∷ []

pub living-push : (slots : List (Option Letter)) (o : Option Letter) → living (slots ++ o ∷ []) ≡ living slots ++ as_list o
living-push [] None = refl
living-push [] (Some x) = refl
living-push (None ∷ slots) o = living-push slots o
living-push (Some x ∷ slots) o = ap (λ ys. x ∷ ys) (living-push slots o)

pub living-closed : (slots : List (Option Letter)) → living (filter is_some slots) ≡ living slots
living-closed [] = refl
living-closed (None ∷ slots) = living-closed slots
living-closed (Some x ∷ slots) = ap (λ ys. x ∷ ys) (living-closed slots)

pub length-closed : (slots : List (Option Letter)) → length (filter is_some slots) ≡ length (living slots)
length-closed [] = refl
length-closed (None ∷ slots) = length-closed slots
length-closed (Some x ∷ slots) = ap suc (length-closed slots)

pub few_living : (slots : List (Option Letter)) → length (living slots) ≤ length slots
few_living [] = omega arith
few_living (None ∷ slots) = omega (arith, few_living slots)
few_living (Some x ∷ slots) = omega (arith, few_living slots)

-- a slot more: the others have what they had
pub slot_at-push : (slots : List (Option Letter)) (o : Option Letter) → get_or (slots ++ o ∷ []) (length slots) None ≡ o
slot_at-push [] o = refl
slot_at-push (x ∷ slots) o = slot_at-push slots o

pub slot_at-past : (slots : List (Option Letter)) (o : Option Letter) (i : ℕ) → i ≢ length slots → get_or (slots ++ o ∷ []) i None ≡ get_or slots i None
slot_at-past [] o zero away = absurd (away refl)
slot_at-past [] o (suc i) away = refl
slot_at-past (x ∷ slots) o zero away = refl
slot_at-past (x ∷ slots) o (suc i) away = slot_at-past slots o i (λ same. away (ap suc same))

pub slot_at-none : (slots : List (Option Letter)) (i : ℕ) → get_or (slots ++ None ∷ []) i None ≡ get_or slots i None
slot_at-none [] zero = refl
slot_at-none [] (suc i) = refl
slot_at-none (x ∷ slots) zero = refl
slot_at-none (x ∷ slots) (suc i) = slot_at-none slots i

-- the last slot is written
pub set_last : (slots : List (Option Letter)) (i : ℕ) (o : Option Letter) → suc i ≡ length slots → take i slots ++ o ∷ [] ≡ set slots i o
set_last [] i o last = absurd (omega (arith, last))
set_last (x ∷ []) zero o last = refl
set_last (x ∷ y ∷ slots) zero o last = absurd (omega (arith, last))
set_last (x ∷ slots) (suc i) o last = ap (λ ys. x ∷ ys) (set_last slots i o (omega (arith, last)))

-- what has a letter is no empty slot
pub slot_within : (slots : List (Option Letter)) (i : ℕ) (letter : Letter) → get_or slots i None ≡ Some letter → i < length slots
slot_within [] i letter is = absurd (cc)
slot_within (x ∷ slots) zero letter is = omega arith
slot_within (x ∷ slots) (suc i) letter is = omega (arith, slot_within slots i letter is)

-- a slot that passes has a letter
pub record HasOne (p : Letter → Bool) (o : Option Letter) : Type 0 where
  pub letter : Letter
  pub is : o ≡ Some letter
  pub passed : p letter ≡ true

pub has_one : (p : Letter → Bool) (o : Option Letter) → passes p o ≡ true → HasOne p o
has_one p None none = absurd (cc)
has_one p (Some letter) passed = record { letter = letter; is = refl; passed = passed }

-- ---- among all letters

-- the letter in a slot is one of all letters, and what becomes of the slot becomes of it
pub record IsRanked (slots : List (Option Letter)) (i : ℕ) (letter : Letter) : Type 0 where
  pub rank : ℕ
  pub within : rank < length (living slots)
  pub here : letter ≡ get_or (living slots) rank letter
  pub emptied : living (set slots i None) ≡ remove (living slots) rank
  pub written : (l : Letter) → living (set slots i (Some l)) ≡ set (living slots) rank l

pub ranked : (slots : List (Option Letter)) (i : ℕ) (letter : Letter) → get_or slots i None ≡ Some letter → IsRanked slots i letter
ranked [] i letter is = absurd (cc)
ranked (None ∷ slots) zero letter is = absurd (cc)
ranked (None ∷ slots) (suc i) letter is =
    let rest = ranked slots i letter is in
    record { rank = rest.rank; within = rest.within; here = rest.here; emptied = rest.emptied; written = rest.written }
ranked (Some x ∷ slots) zero letter is =
    let same : letter ≡ x = cc in
    record { rank = 0; within = omega arith; here = same; emptied = refl; written = λ l. refl }
ranked (Some x ∷ slots) (suc i) letter is =
    let rest = ranked slots i letter is in
    record {
      rank = suc rest.rank;
      within = omega (arith, rest.within);
      here = rest.here;
      emptied = ap (λ ys. x ∷ ys) rest.emptied;
      written = λ l. ap (λ ys. x ∷ ys) (rest.written l);
    }

-- a letter in a slot is counted
pub counted_at : (slots : List (Option Letter)) (i : ℕ) (letter : Letter) (x : ℕ) → get_or slots i None ≡ Some letter
    → is_letter_of x letter ≡ true → 1 ≤ letters_of (living slots) x
counted_at [] i letter x is its = absurd (cc)
counted_at (None ∷ slots) zero letter x is its = absurd (cc)
counted_at (None ∷ slots) (suc i) letter x is its = counted_at slots i letter x is its
counted_at (Some y ∷ slots) zero letter x is its =
    let same : y ≡ letter = cc in
    omega (arith, count-cons (is_letter_of x) y (living slots), ap one (ap (is_letter_of x) same ∙ its))
counted_at (Some y ∷ slots) (suc i) letter x is its = omega (arith, count-cons (is_letter_of x) y (living slots), counted_at slots i letter x is its)

-- a test that only letters of x pass
module _ (x : ℕ) (q : Letter → Bool) (only : (l : Letter) → q l ≡ true → is_letter_of x l ≡ true) where
  pub find_absent : (letters : List Letter) → letters_of letters x ≡ 0 → find q letters ≡ None
  find_absent [] none = refl
  find_absent (l ∷ letters) none = by_test (λ later. find_absent letters later) (q l) refl
    where
      by_test : (letters_of letters x ≡ 0 → find q letters ≡ None) → (b : Bool) → q l ≡ b → find q (l ∷ letters) ≡ None
      by_test rest true e = absurd (omega (arith, none, count-cons (is_letter_of x) l letters, ap one (only l e)))
      by_test rest false e = rw e (rest (omega (arith, none, count-cons (is_letter_of x) l letters)))

  pub find_only : (slots : List (Option Letter)) (i : ℕ) (letter : Letter) → get_or slots i None ≡ Some letter
      → is_letter_of x letter ≡ true → letters_of (living slots) x ≤ 1 → find q (living slots) ≡ cond (q letter) (Some letter) None
  find_only [] i letter is its once = absurd (cc)
  find_only (None ∷ slots) zero letter is its once = absurd (cc)
  find_only (None ∷ slots) (suc i) letter is its once = find_only slots i letter is its once
  find_only (Some y ∷ slots) zero letter is its once =
      let same : y ≡ letter = cc in
      let none = find_absent (living slots) (omega (arith, once, count-cons (is_letter_of x) y (living slots), ap one (ap (is_letter_of x) same ∙ its))) in
      rw (none, same) refl
  find_only (Some y ∷ slots) (suc i) letter is its once = by_test (λ later. find_only slots i letter is its later) (q y) refl
    where
      by_test : (letters_of (living slots) x ≤ 1 → find q (living slots) ≡ cond (q letter) (Some letter) None) → (b : Bool) → q y ≡ b
          → find q (y ∷ living slots) ≡ cond (q letter) (Some letter) None
      by_test rest true e = absurd (omega (arith, once, count-cons (is_letter_of x) y (living slots), ap one (only y e), counted_at slots i letter x is its))
      by_test rest false e = rw e (rest (omega (arith, once, count-cons (is_letter_of x) y (living slots))))

-- ---- the keys

module _ (p : Letter → Bool) where
  -- a smaller number is none of the keys
  pub keys_above : (n k : ℕ) (slots : List (Option Letter)) → k < n → without k (keys_from n p slots) ≡ keys_from n p slots
  keys_above n k [] less = refl
  keys_above n k (o ∷ slots) less = by_test (keys_above (suc n) k slots (omega (arith, less))) (passes p o)
    where
      by_test : without k (keys_from (suc n) p slots) ≡ keys_from (suc n) p slots → (b : Bool)
          → without k (cond b (n ∷ keys_from (suc n) p slots) (keys_from (suc n) p slots)) ≡ cond b (n ∷ keys_from (suc n) p slots) (keys_from (suc n) p slots)
      by_test rest true =
          let other : eqb n k ≡ false = ne_eqb n k (λ same. absurd (omega (arith, same, less))) in
          rw other (ap (λ ks. n ∷ ks) rest)
      by_test rest false = rest

  -- nor is one past the last slot
  pub keys_below : (n k : ℕ) (slots : List (Option Letter)) → n + length slots ≤ k → without k (keys_from n p slots) ≡ keys_from n p slots
  keys_below n k [] less = refl
  keys_below n k (o ∷ slots) less = by_test (keys_below (suc n) k slots (omega (arith, less))) (passes p o)
    where
      by_test : without k (keys_from (suc n) p slots) ≡ keys_from (suc n) p slots → (b : Bool)
          → without k (cond b (n ∷ keys_from (suc n) p slots) (keys_from (suc n) p slots)) ≡ cond b (n ∷ keys_from (suc n) p slots) (keys_from (suc n) p slots)
      by_test rest true =
          let other : eqb n k ≡ false = ne_eqb n k (λ same. absurd (omega (arith, same, less))) in
          rw other (ap (λ ks. n ∷ ks) rest)
      by_test rest false = rest

  pub keys-push : (n k : ℕ) (slots : List (Option Letter)) (o : Option Letter) → k ≡ n + length slots
      → keys_from n p (slots ++ o ∷ []) ≡ keys_from n p slots ++ cond (passes p o) (k ∷ []) []
  keys-push n k [] o is =
      let same : n ≡ k = omega (arith, is) in
      rw same refl
  keys-push n k (x ∷ slots) o is = by_test (keys-push (suc n) k slots o (omega (arith, is))) (passes p x)
    where
      by_test : keys_from (suc n) p (slots ++ o ∷ []) ≡ keys_from (suc n) p slots ++ cond (passes p o) (k ∷ []) [] → (b : Bool)
          → cond b (n ∷ keys_from (suc n) p (slots ++ o ∷ [])) (keys_from (suc n) p (slots ++ o ∷ []))
          ≡ cond b (n ∷ keys_from (suc n) p slots) (keys_from (suc n) p slots) ++ cond (passes p o) (k ∷ []) []
      by_test rest true = ap (λ ks. n ∷ ks) rest
      by_test rest false = rest

  pub keys-nothing : (n : ℕ) (slots : List (Option Letter)) → keys_from n p (slots ++ None ∷ []) ≡ keys_from n p slots
  keys-nothing n [] = refl
  keys-nothing n (x ∷ slots) = by_test (keys-nothing (suc n) slots) (passes p x)
    where
      by_test : keys_from (suc n) p (slots ++ None ∷ []) ≡ keys_from (suc n) p slots → (b : Bool)
          → cond b (n ∷ keys_from (suc n) p (slots ++ None ∷ [])) (keys_from (suc n) p (slots ++ None ∷ []))
          ≡ cond b (n ∷ keys_from (suc n) p slots) (keys_from (suc n) p slots)
      by_test rest true = ap (λ ks. n ∷ ks) rest
      by_test rest false = rest

  -- what a slot has from now on doesn't pass
  pub keys-out : (n k : ℕ) (slots : List (Option Letter)) (i : ℕ) (o : Option Letter) → k ≡ n + i → passes p o ≡ false
      → keys_from n p (set slots i o) ≡ without k (keys_from n p slots)
  keys-out n k [] i o is out = refl
  keys-out n k (x ∷ slots) zero o is out =
      let same : k ≡ n = omega (arith, is) in
      rw (out, same) (by_test (keys_above (suc n) n slots (omega arith)) (passes p x))
    where
      by_test : without n (keys_from (suc n) p slots) ≡ keys_from (suc n) p slots → (b : Bool)
          → keys_from (suc n) p slots ≡ without n (cond b (n ∷ keys_from (suc n) p slots) (keys_from (suc n) p slots))
      by_test rest true = rw (eq-eqb n n refl) (sym rest)
      by_test rest false = sym rest
  keys-out n k (x ∷ slots) (suc i) o is out = by_test (keys-out (suc n) k slots i o (omega (arith, is)) out) (passes p x)
    where
      by_test : keys_from (suc n) p (set slots i o) ≡ without k (keys_from (suc n) p slots) → (b : Bool)
          → cond b (n ∷ keys_from (suc n) p (set slots i o)) (keys_from (suc n) p (set slots i o))
          ≡ without k (cond b (n ∷ keys_from (suc n) p slots) (keys_from (suc n) p slots))
      by_test rest true =
          let other : eqb n k ≡ false = ne_eqb n k (λ same. absurd (omega (arith, same, is))) in
          rw other (ap (λ ks. n ∷ ks) rest)
      by_test rest false = rest

  -- what a slot has passes from now on as it did
  pub keys-alike : (n : ℕ) (slots : List (Option Letter)) (i : ℕ) (o : Option Letter) → passes p o ≡ passes p (get_or slots i None)
      → keys_from n p (set slots i o) ≡ keys_from n p slots
  keys-alike n [] i o alike = refl
  keys-alike n (x ∷ slots) zero o alike = rw alike refl
  keys-alike n (x ∷ slots) (suc i) o alike = by_test (keys-alike (suc n) slots i o alike) (passes p x)
    where
      by_test : keys_from (suc n) p (set slots i o) ≡ keys_from (suc n) p slots → (b : Bool)
          → cond b (n ∷ keys_from (suc n) p (set slots i o)) (keys_from (suc n) p (set slots i o))
          ≡ cond b (n ∷ keys_from (suc n) p slots) (keys_from (suc n) p slots)
      by_test rest true = ap (λ ks. n ∷ ks) rest
      by_test rest false = rest

  -- the first key is of the first letter that passes
  pub first_none : (n : ℕ) (slots : List (Option Letter)) → slice_get (keys_from n p slots) 0 ≡ None → find p (living slots) ≡ None
  first_none n [] none = refl
  first_none n (None ∷ slots) none = first_none (suc n) slots none
  first_none n (Some x ∷ slots) none = by_test (λ later. first_none (suc n) slots later) (p x) refl none
    where
      by_test : (slice_get (keys_from (suc n) p slots) 0 ≡ None → find p (living slots) ≡ None) → (b : Bool) → p x ≡ b
          → slice_get (cond b (n ∷ keys_from (suc n) p slots) (keys_from (suc n) p slots)) 0 ≡ None → find p (x ∷ living slots) ≡ None
      by_test rest true e none = absurd (cc)
      by_test rest false e none = rw e (rest none)

  pub first_some : (n k i : ℕ) (slots : List (Option Letter)) → k ≡ n + i → slice_get (keys_from n p slots) 0 ≡ Some k → IsFirstAt p slots i
  first_some n k i [] is some = absurd (cc)
  first_some n k i (o ∷ slots) is some = by_test (λ j at later. first_some (suc n) k j slots at later) o i (passes p o) refl is some
    where
      by_test : ((j : ℕ) → k ≡ suc n + j → slice_get (keys_from (suc n) p slots) 0 ≡ Some k → IsFirstAt p slots j)
          → (o : Option Letter) (i : ℕ) (b : Bool) → passes p o ≡ b → k ≡ n + i
          → slice_get (cond b (n ∷ keys_from (suc n) p slots) (keys_from (suc n) p slots)) 0 ≡ Some k → IsFirstAt p (o ∷ slots) i
      by_test rest None i true e is some = absurd (cc)
      by_test rest (Some x) zero true e is some = record { within = omega arith; passed = e; first = rw e refl }
      by_test rest (Some x) (suc i) true e is some = let same : n ≡ k = cc in absurd (omega (arith, same, is))
      by_test rest o zero false e is some = absurd (omega (arith, is, low (suc n) k slots some))
        where
          low : (m k : ℕ) (slots : List (Option Letter)) → slice_get (keys_from m p slots) 0 ≡ Some k → m ≤ k
          low m k [] some = absurd (cc)
          low m k (o ∷ slots) some = by_pass (λ later. low (suc m) k slots later) (passes p o) some
            where
              by_pass : (slice_get (keys_from (suc m) p slots) 0 ≡ Some k → suc m ≤ k) → (b : Bool)
                  → slice_get (cond b (m ∷ keys_from (suc m) p slots) (keys_from (suc m) p slots)) 0 ≡ Some k → m ≤ k
              by_pass rest true some = let same : m ≡ k = cc in omega (arith, same)
              by_pass rest false some = omega (arith, rest some)
      by_test rest None (suc i) false e is some =
          let there = rest i (omega (arith, is)) some in
          record { within = omega (arith, there.within); passed = there.passed; first = there.first }
      by_test rest (Some x) (suc i) false e is some =
          let there = rest i (omega (arith, is)) some in
          record { within = omega (arith, there.within); passed = there.passed; first = rw e there.first }

-- ---- what a look at a slot tells

pub here_at : (slots : List (Option Letter)) (i : ℕ) (o : Option Letter) → i < length slots → o ≡ get_or slots i o → get_or slots i None ≡ o
here_at [] i o within here = absurd (omega (arith, within))
here_at (x ∷ slots) zero o within here = sym here
here_at (x ∷ slots) (suc i) o within here = here_at slots i o (omega (arith, within)) here

pub some_at : (slots : List (Option Letter)) (i : ℕ) (o : Option Letter) (letter : Letter) → i < length slots → o ≡ get_or slots i o
    → o ≡ Some letter → get_or slots i None ≡ Some letter
some_at slots i o letter within here is = here_at slots i o within here ∙ is
