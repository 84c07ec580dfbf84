-- The index knows each thread that waits, and stays so through each change.
use Rattle.lwp_types.specs.CountLaws.{count-cons, count-push, count_and-le, one}
use Rattle.std.proofs.Common.{Bool, List, None, Option, Some, [], ap, arith, count_by, false, get_or, inl, inr, length, length-take, refl, set}
use Rattle.std.proofs.Common.{subst, suc, sym, take, true, zero, ℕ, ◌++◌, ◌+◌, ◌<◌, ◌∙◌, ◌∷◌, ◌≡◌, ◌≢◌, ◌≤◌}
use Rattle.std.proofs.lemmas.Bool.{cases_eq, eq-eqb, ne_eqb}
use Rattle.std.proofs.lemmas.List.Edits.{length-remove}
use Rattle.std.proofs.lemmas.List.Sums.{sum_by-remove, sum_by-set}
use Rattle.std.proofs.lemmas.List.{length-set, length_push}
use Rattle.std.specs.List.{remove}
use Rattle.lists.specs.ThreadIndex.{Found, Puts, count_of, place_of}
use Rattle.lists.proofs.WaitingLaws.FilingLaws.{take_more}
use Rattle.lists.specs.WaitingList.Entries.{IsArrivalOf, IsKnown, IsOnce, has_arrival, is_arrival_of, is_entry_of}
use Rattle.lists.specs.declared.waiting_list.rows.Entry.{Entry}

-- who isn't of this number isn't of this number and arrival
apart : (t n : ℕ) (e : Entry) → e.tid ≢ t → is_arrival_of t n e ≡ false
apart t n e away = rw (ne_eqb e.tid t away) refl

itself : (e : Entry) → is_arrival_of e.tid e.arrival e ≡ true
itself e = rw (eq-eqb e.tid e.tid refl, eq-eqb e.arrival e.arrival refl) refl

module _ (es : List Entry) (index index' : Found) (was : IsKnown es index) where
  -- one more waits
  pub IsKnown-push : (e : Entry) → Puts (place_of index) (place_of index') e.tid (Some e.arrival) → count_of index' ≡ count_of index + 1
      → IsKnown (es ++ e ∷ []) index'
  IsKnown-push e puts count = record {
    each = λ t. elim (cases_eq t e.tid) [
      | inl same ↦ subst (IsArrivalOf (es ++ e ∷ []) t) (sym (ap (place_of index') same ∙ puts.here)) (here t same)
      | inr away ↦ subst (IsArrivalOf (es ++ e ∷ []) t) (sym (puts.others t away)) (other t (place_of index t) away (was.each t))
    ];
    counted = omega (arith, count, was.counted, length_push es e);
  }
    where
      here : (t : ℕ) → t ≡ e.tid → 1 ≤ count_by (is_arrival_of t e.arrival) (es ++ e ∷ [])
      here t same = omega (arith, count-push (is_arrival_of t e.arrival) es e, ap one (ap (λ u. is_arrival_of u e.arrival e) same ∙ itself e))

      other : (t : ℕ) (o : Option ℕ) → t ≢ e.tid → IsArrivalOf es t o → IsArrivalOf (es ++ e ∷ []) t o
      other t None away none = omega (arith, none, count-push (is_entry_of t) es e, ap one (ne_eqb e.tid t (λ same. away (sym same))))
      other t (Some n) away some = omega (arith, some, count-push (is_arrival_of t n) es e)

  module _ (t i : ℕ) (e : Entry) (within : i < length es) (here : e ≡ get_or es i e) where
    -- it waits no more
    pub IsKnown-remove : e.tid ≡ t → count_by (is_entry_of t) es ≤ 1 → Puts (place_of index) (place_of index') t None
        → count_of index' + 1 ≡ count_of index → IsKnown (remove es i) index'
    IsKnown-remove is once puts count = record {
      each = λ u. elim (cases_eq u t) [
        | inl same ↦ subst (IsArrivalOf (remove es i) u) (sym (ap (place_of index') same ∙ puts.here)) (gone u same)
        | inr away ↦ subst (IsArrivalOf (remove es i) u) (sym (puts.others u away)) (other u (place_of index u) away (was.each u))
      ];
      counted = omega (arith, count, was.counted, length-remove es i within);
    }
      where
        gone : (u : ℕ) → u ≡ t → count_by (is_entry_of u) (remove es i) ≡ 0
        gone u same = rw same (omega
            (arith, once, sum_by-remove (λ x. one (is_entry_of t x)) es i e within, ap (λ x. one (is_entry_of t x)) (sym here), ap one (eq-eqb e.tid t is)))

        other : (u : ℕ) (o : Option ℕ) → u ≢ t → IsArrivalOf es u o → IsArrivalOf (remove es i) u o
        other u None away none = omega (arith, none, sum_by-remove (λ x. one (is_entry_of u x)) es i e within)
        other u (Some n) away some = omega (
          arith,
          some,
          sum_by-remove (λ x. one (is_arrival_of u n x)) es i e within,
          ap (λ x. one (is_arrival_of u n x)) (sym here),
          ap one (apart u n e (λ same. away (sym same ∙ is))),
        )

-- it has another priority
pub IsKnown-set : (es : List Entry) (index : Found) → IsKnown es index → (i p q : ℕ) (e : Entry) → i < length es → e ≡ get_or es i e
    → IsKnown (set es i (record e { prio = p; filed = q })) index
IsKnown-set es index was i p q e within here = record {
  each = λ t. other t (place_of index t) (was.each t);
  counted = omega (arith, was.counted, length-set es i (record e { prio = p; filed = q }));
}
  where
    other : (t : ℕ) (o : Option ℕ) → IsArrivalOf es t o → IsArrivalOf (set es i (record e { prio = p; filed = q })) t o
    other t None none =
        omega (arith, none, sum_by-set (λ x. one (is_entry_of t x)) es i (record e { prio = p; filed = q }) e within, ap (λ x. one (is_entry_of t x)) here)
    other t (Some n) some = omega
        (arith, some, sum_by-set (λ x. one (is_arrival_of t n x)) es i (record e { prio = p; filed = q }) e within, ap (λ x. one (is_arrival_of t n x)) here)

-- ---- filed one by one

count-taken : (p : Entry → Bool) (n : ℕ) (es : List Entry) → count_by p (take n es) ≤ count_by p es
count-taken p zero es = omega arith
count-taken p (suc n) [] = omega arith
count-taken p (suc n) (e ∷ es) = omega (arith, count-cons p e (take n es), count-cons p e es, count-taken p n es)

module _ (es : List Entry) (once : IsOnce es) (index : Found) (i : ℕ) (e : Entry) (within : i < length es) (here : e ≡ get_or es i e)
    (was : IsKnown (take i es) index) where
  -- who isn't filed yet isn't known
  pub unknown : place_of index e.tid ≡ None
  unknown = by_place (place_of index e.tid) (was.each e.tid)
    where
      by_place : (o : Option ℕ) → IsArrivalOf (take i es) e.tid o → o ≡ None
      by_place None none = refl
      by_place (Some n) some = absurd (omega (
        arith,
        once e.tid,
        some,
        count_and-le (is_entry_of e.tid) (has_arrival n) (take i es),
        count-taken (is_entry_of e.tid) (suc i) es,
        ap (count_by (is_entry_of e.tid)) (take_more es i e within here),
        count-push (is_entry_of e.tid) (take i es) e,
        ap one (eq-eqb e.tid e.tid refl),
      ))

  pub few_known : count_of index < length es
  few_known = omega (arith, was.counted, length-take i es, within)

  pub IsKnown-more : (index' : Found) (next : ℕ) → next ≡ suc i → Puts (place_of index) (place_of index') e.tid (Some e.arrival)
      → count_of index' ≡ count_of index + 1 → IsKnown (take next es) index'
  IsKnown-more index' next then puts count = rw (then, take_more es i e within here) (IsKnown-push (take i es) index index' was e puts count)
