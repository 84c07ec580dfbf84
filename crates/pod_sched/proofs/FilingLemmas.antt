-- The known threads are put in an index, one after the other.
use Rattle.lists.specs.ThreadIndex.{Puts}
use Rattle.lwp_types.specs.CountLaws.{count-append, count-cons}
use Rattle.lwp_types.specs.State.{times_in}
use Rattle.pod_sched.proofs.Counts.{one_same, times_found}
use Rattle.pod_sched.proofs.LeaveLemmas.{find_push_new, find_push_old}
use Rattle.pod_sched.proofs.WalkLemmas.{cut_at, passes_at}
use Rattle.pod_sched.specs.Slots.{AreListed, IsListed, has_tid}
use Rattle.pod_sched.specs.declared.rows.Known.{Known}
use Rattle.std.proofs.Common.{Bool, List, None, Option, Some, [], ap, arith, cond, drop, eqb, false, inl, inr, length, refl}
use Rattle.std.proofs.Common.{slice_get, suc, sym, take, true, zero, ℕ, ◌++◌, ◌+◌, ◌<◌, ◌∙◌, ◌∷◌, ◌≡◌, ◌≤◌}
use Rattle.std.proofs.lemmas.Bool.{cases_eq, eq-eqb, ne_eqb}
use Rattle.std.specs.List.{find}

-- the first threads have their slots in the index, and this slot comes next
pub record AreFiled (row : ℕ → Known) (keys : List ℕ) (slot_of : ℕ → Option ℕ) (count : ℕ) (next : Option ℕ) : Type 0 where
  pub comes : next ≡ slice_get (drop count keys) 0
  pub within : count ≤ length keys
  pub found : (t : ℕ) → slot_of t ≡ find (has_tid row t) (take count keys)

-- ---- a list that is cut at one of its numbers

take_more : (keys : List ℕ) (n k : ℕ) → slice_get (drop n keys) 0 ≡ Some k → take (suc n) keys ≡ take n keys ++ k ∷ []
take_more [] zero k is = absurd (cc)
take_more [] (suc n) k is = absurd (cc)
take_more (x ∷ keys) zero k is = let same : x ≡ k = cc in ap (λ y. y ∷ []) same
take_more (x ∷ keys) (suc n) k is = ap (λ ys. x ∷ ys) (take_more keys n k is)

fewer : (keys : List ℕ) (n k : ℕ) → slice_get (drop n keys) 0 ≡ Some k → n < length keys
fewer [] zero k is = absurd (cc)
fewer [] (suc n) k is = absurd (cc)
fewer (x ∷ keys) zero k is = omega arith
fewer (x ∷ keys) (suc n) k is = omega (arith, fewer keys n k is)

take_none : (keys : List ℕ) → take 0 keys ≡ []
take_none [] = refl
take_none (x ∷ keys) = refl

-- where nothing comes next, these are all
take_all : (keys : List ℕ) (n : ℕ) → slice_get (drop n keys) 0 ≡ None → take n keys ≡ keys
take_all [] zero none = refl
take_all [] (suc n) none = refl
take_all (x ∷ keys) zero none = absurd (cc)
take_all (x ∷ keys) (suc n) none = ap (λ ys. x ∷ ys) (take_all keys n none)

none_after : (keys : List ℕ) (n : ℕ) → slice_get (drop n keys) 0 ≡ None → length keys ≤ n
none_after [] n none = omega arith
none_after (x ∷ keys) zero none = absurd (cc)
none_after (x ∷ keys) (suc n) none = omega (arith, none_after keys n none)

-- what is found in the first part is found in the whole
found_first : (p : ℕ → Bool) (xs ys : List ℕ) (a : ℕ) → find p xs ≡ Some a → find p (xs ++ ys) ≡ Some a
found_first p [] ys a found = absurd (cc)
found_first p (x ∷ xs) ys a found = by_test (p x) (found_first p xs ys a) found
  where
    by_test : (b : Bool) → (find p xs ≡ Some a → find p (xs ++ ys) ≡ Some a) → cond b (Some x) (find p xs) ≡ Some a
        → cond b (Some x) (find p (xs ++ ys)) ≡ Some a
    by_test true rest here = here
    by_test false rest later = rest later

-- a number that stands there once isn't found before itself
not_before : (p : ℕ → Bool) (before after : List ℕ) (k : ℕ) → times_in (before ++ k ∷ after) k ≤ 1
    → find p (before ++ k ∷ after) ≡ Some k → find p before ≡ None
not_before p before after k once found = by_case (find p before) refl
  where
    by_case : (o : Option ℕ) → find p before ≡ o → o ≡ None
    by_case None is = refl
    by_case (Some a) is =
        let same : a ≡ k = let whole = found_first p before (k ∷ after) a is in cc (whole, found) in
        let there = times_found p before k (is ∙ ap Some same) in
        absurd (omega (
          arith,
          once,
          there,
          count-append (λ v. eqb v k) before (k ∷ after),
          count-cons (λ v. eqb v k) k after,
          one_same k,
        ))

-- ---- the way

pub starts : (row : ℕ → Known) (keys : List ℕ) (slot_of : ℕ → Option ℕ) (count : ℕ) (next : Option ℕ) → ((t : ℕ) → slot_of t ≡ None)
    → count ≡ 0 → next ≡ slice_get keys 0 → AreFiled row keys slot_of count next
starts row keys slot_of count next nobody none first = rw none (record {
  comes = first;
  within = omega arith;
  found = λ t. nobody t ∙ ap (find (has_tid row t)) (sym (take_none keys));
})

module _ (row : ℕ → Known) (keys : List ℕ) (slot_of : ℕ → Option ℕ) (count : ℕ) (next : Option ℕ) (filed : AreFiled row keys slot_of count next) where
  module _ (none : next ≡ None) where
    nothing : slice_get (drop count keys) 0 ≡ None
    nothing = sym filed.comes ∙ none

    pub all_found : (t : ℕ) → slot_of t ≡ find (has_tid row t) keys
    all_found t = filed.found t ∙ ap (find (has_tid row t)) (take_all keys count nothing)

    pub all_counted : count ≡ length keys
    all_counted = omega (arith, filed.within, none_after keys count nothing)

  module _ (slot : ℕ) (is : next ≡ Some slot) where
    here : slice_get (drop count keys) 0 ≡ Some slot
    here = sym filed.comes ∙ is

    pub cut : keys ≡ take count keys ++ slot ∷ drop (suc count) keys
    cut = cut_at keys count slot here

    pub some_left : count < length keys
    some_left = fewer keys count slot here

    module _ (rows : List Known) (limit : ℕ) (listed : AreListed rows limit keys) where
      pub its_slot : IsListed rows limit keys slot
      its_slot = passes_at (IsListed rows limit keys) keys count slot listed.all here

    module _ (once : (s : ℕ) → times_in keys s ≤ 1) (its_own : find (has_tid row (row slot).tid) keys ≡ Some slot) where
      absent : find (has_tid row (row slot).tid) (take count keys) ≡ None
      absent = not_before (has_tid row (row slot).tid) (take count keys) (drop (suc count) keys) slot (rw cut at once slot) (rw cut at its_own)

      pub is_new : slot_of (row slot).tid ≡ None
      is_new = filed.found (row slot).tid ∙ absent

      pub goes_on : (slot_of' : ℕ → Option ℕ) (count' : ℕ) (then : Option ℕ) → Puts slot_of slot_of' (row slot).tid (Some slot)
          → count' ≡ count + 1 → then ≡ slice_get (drop (suc count) keys) 0 → AreFiled row keys slot_of' count' then
      goes_on slot_of' count' then puts more then_is =
          let next_count : count' ≡ suc count = omega (arith, more) in
          rw next_count (record {
            comes = then_is;
            within = omega (arith, some_left);
            found = λ t. found_then t ∙ ap (find (has_tid row t)) (sym (take_more keys count slot here));
          })
        where
          found_then : (t : ℕ) → slot_of' t ≡ find (has_tid row t) (take count keys ++ slot ∷ [])
          found_then t = elim (cases_eq t (row slot).tid) [
            | inl same
                ↦ ap slot_of' same ∙ puts.here
                ∙ sym (ap (λ u. find (has_tid row u) (take count keys ++ slot ∷ [])) same
                ∙ find_push_new (has_tid row (row slot).tid) (take count keys) slot absent (eq-eqb (row slot).tid (row slot).tid refl))
            | inr differs
                ↦ puts.others t differs ∙ filed.found t
                ∙ sym (find_push_old (has_tid row t) (take count keys) slot (ne_eqb (row slot).tid t (λ of_t. differs (sym of_t))))
          ]
