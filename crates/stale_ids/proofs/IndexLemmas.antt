-- From slots and index to the list of the living: what a search finds, and what each change does to that list.
use Rattle.std.specs.Prelude.{slice_index}
use Rattle.std.proofs.Common.{◌≡◌, Result, Ok, Err, IfSome, IfNone, ◌≢◌, ℕ, zero, suc, ◌+◌, ◌<◌, ◌≤◌, List, [], ◌∷◌, ◌++◌, map, length, get_or, set}
use Rattle.std.proofs.Common.{Option, Some, None, IsSome, is_some, count_by, cond, inl, inr, refl, sym, ap, ◌∙◌, arith}
use Rattle.std.specs.List.{AllByRecursion, remove}
use Rattle.std.specs.List.Sorted.{IsSearchInRange, IsBinarySearchResult, IsNonDecreasingBy}
use Rattle.std.specs.Ordering.{nat_cmp, ordering_index}
use Rattle.std.specs.Result.{result_ok}
use Rattle.std.proofs.lemmas.Cmp.{ranked}
use Rattle.std.proofs.lemmas.Bool.{false≢true, cases_lt}
use Rattle.std.proofs.lemmas.List.Sorted.{IsNonDecreasingBy-from_default}
use Rattle.std.proofs.lemmas.List.Elements.{recursion_from_All, All-from_get_or}
use Rattle.std.proofs.lemmas.List.Edits.{length-remove}
use Rattle.std.proofs.lemmas.List.{get_or-map, length_push}
use Rattle.std.proofs.lemmas.List.Sums.{sum_by-set}
use Rattle.std.proofs.lemmas.Bool.Decides.{nat_tests}
use Rattle.std.proofs.lemmas.List.{get_or-set_same, get_or-set_other, get_or_past}
use Rattle.stale_ids.specs.declared.index.Place.{Place}
use Rattle.stale_ids.specs.Register.{AreRising, numbers, value_of, with_value, without}
use Rattle.stale_ids.specs.Index.{IsLater, IsRising, IsAbsent, IsAt, onto, pairs, AreFull, IsSound}

module _ {X : Type 0} (P : X → Type 0) where
  pub All-push : (xs : List X) (y : X) → AllByRecursion P xs → P y → AllByRecursion P (xs ++ y ∷ [])
  All-push [] y all here = (here, tt)
  All-push (x ∷ xs) y all here = (all.0, All-push xs y all.1 here)

  pub All-weaker : (Q : X → Type 0) → ((x : X) → P x → Q x) → (xs : List X) → AllByRecursion P xs → AllByRecursion Q xs
  All-weaker Q weaker [] all = tt
  All-weaker Q weaker (x ∷ xs) all = (weaker x all.0, All-weaker Q weaker xs all.1)

  pub All-remove : (xs : List X) (i : ℕ) → AllByRecursion P xs → AllByRecursion P (remove xs i)
  All-remove [] zero all = tt
  All-remove [] (suc i) all = tt
  All-remove (x ∷ xs) zero all = all.1
  All-remove (x ∷ xs) (suc i) all = (all.0, All-remove xs i all.1)

  pub All-at : (xs : List X) (i : ℕ) (d : X) → i < length xs → AllByRecursion P xs → P (get_or xs i d)
  All-at [] i d within all = absurd (omega arith)
  All-at (x ∷ xs) zero d within all = all.0
  All-at (x ∷ xs) (suc i) d within all = All-at xs i d (omega arith) all.1

  -- of each element, one fact more from two
  pub All-both : (Q R : X → Type 0) → ((x : X) → P x → Q x → R x) → (xs : List X) → AllByRecursion P xs → AllByRecursion Q xs → AllByRecursion R xs
  All-both Q R step [] all also = tt
  All-both Q R step (x ∷ xs) all also = (step x all.0 also.0, All-both Q R step xs all.1 also.1)

pub IsRising-push : (es : List Place) (f : Place) → IsRising es → AllByRecursion (λ e. IsLater e f) es → IsRising (es ++ f ∷ [])
IsRising-push [] f rising later = (tt, tt)
IsRising-push (e ∷ es) f rising later = (All-push (IsLater e) es f rising.0 later.0, IsRising-push es f rising.1 later.1)

pub IsRising-remove : (es : List Place) (i : ℕ) → IsRising es → IsRising (remove es i)
IsRising-remove [] zero rising = tt
IsRising-remove [] (suc i) rising = tt
IsRising-remove (e ∷ es) zero rising = rising.1
IsRising-remove (e ∷ es) (suc i) rising = (All-remove (IsLater e) es i rising.0, IsRising-remove es i rising.1)

-- of two places the later has the greater number
pub rises : (es : List Place) (i j : ℕ) (d : Place) → IsRising es → i < j → j < length es → (get_or es i d).number < (get_or es j d).number
rises [] i j d rising lt within = absurd (omega arith)
rises (e ∷ es) zero zero d rising lt within = absurd (omega arith)
rises (e ∷ es) zero (suc j) d rising lt within = (All-at (IsLater e) es j d (omega arith) rising.0).number
rises (e ∷ es) (suc i) zero d rising lt within = absurd (omega arith)
rises (e ∷ es) (suc i) (suc j) d rising lt within = rises es i j d rising.1 (omega arith) (omega arith)

-- once i is taken out, its slot is named no more
pub others_apart : (es : List Place) (i : ℕ) (d : Place) → IsRising es → i < length es → AllByRecursion (λ e. e.slot ≢ (get_or es i d).slot) (remove es i)
others_apart [] i d rising within = absurd (omega arith)
others_apart (e ∷ es) zero d rising within = All-weaker (IsLater e) _ (λ f later. later.slot) es rising.0
others_apart (e ∷ es) (suc i) d rising within =
    (λ same. (All-at (IsLater e) es i d (omega arith) rising.0).slot (sym same), others_apart es i d rising.1 (omega arith))

-- who was born later has another number
later_absent : (e : Place) (es : List Place) → AllByRecursion (IsLater e) es → IsAbsent e.number es
later_absent e es later = All-weaker (IsLater e) _ (λ f is_later same. omega (arith, is_later.number)) es later

module _ {T : Type 0} where
  value_of-onto_here : (n : ℕ) (o : Option T) (ps : List (ℕ × T)) → IsSome o → value_of n (onto n o ps) ≡ o
  value_of-onto_here n None ps some = absurd (cc)
  value_of-onto_here n (Some v) ps some = grind (arith, nat_tests)

  value_of-onto_other : (n m : ℕ) (o : Option T) (ps : List (ℕ × T)) → n ≢ m → value_of m (onto n o ps) ≡ value_of m ps
  value_of-onto_other n m None ps differs = refl
  value_of-onto_other n m (Some v) ps differs = grind (arith, nat_tests)

  without-onto_here : (n : ℕ) (o : Option T) (ps : List (ℕ × T)) → without n (onto n o ps) ≡ without n ps
  without-onto_here n None ps = refl
  without-onto_here n (Some v) ps = grind (arith, nat_tests)

  without-onto_other : (n m : ℕ) (o : Option T) (ps : List (ℕ × T)) → n ≢ m → without m (onto n o ps) ≡ onto n o (without m ps)
  without-onto_other n m None ps differs = refl
  without-onto_other n m (Some v) ps differs = grind (arith, nat_tests)

  with_value-onto_here : (n : ℕ) (o : Option T) (ps : List (ℕ × T)) (w : T) → IsSome o → with_value n w (onto n o ps) ≡ onto n (Some w) (with_value n w ps)
  with_value-onto_here n None ps w some = absurd (cc)
  with_value-onto_here n (Some v) ps w some = grind (arith, nat_tests)

  with_value-onto_other : (n m : ℕ) (o : Option T) (ps : List (ℕ × T)) (w : T) → n ≢ m → with_value m w (onto n o ps) ≡ onto n o (with_value m w ps)
  with_value-onto_other n m None ps w differs = refl
  with_value-onto_other n m (Some v) ps w differs = grind (arith, nat_tests)

  value_of-without_pair : (n : ℕ) (p : ℕ × T) (ps : List (ℕ × T)) → value_of n (without n ps) ≡ None → value_of n (without n (p ∷ ps)) ≡ None
  value_of-without_pair n p ps rest = grind (arith, nat_tests)

  -- what was taken out isn't found
  pub value_of-without : (n : ℕ) (ps : List (ℕ × T)) → value_of n (without n ps) ≡ None
  value_of-without n [] = refl
  value_of-without n (p ∷ ps) = value_of-without_pair n p ps (value_of-without n ps)

  length-onto : (n : ℕ) (o : Option T) (ps : List (ℕ × T)) → IsSome o → length (onto n o ps) ≡ suc (length ps)
  length-onto n None ps some = absurd (cc)
  length-onto n (Some v) ps some = refl

  numbers-onto : (n : ℕ) (o : Option T) (ps : List (ℕ × T)) → IsSome o → numbers (onto n o ps) ≡ n ∷ numbers ps
  numbers-onto n None ps some = absurd (cc)
  numbers-onto n (Some v) ps some = refl

  onto-append : (n : ℕ) (o : Option T) (ps qs : List (ℕ × T)) → onto n o ps ++ qs ≡ onto n o (ps ++ qs)
  onto-append n None ps qs = refl
  onto-append n (Some v) ps qs = refl

  -- slots that hold the same give the same list
  pub pairs-same : (slots now : List (Option T)) (es : List Place)
      → AllByRecursion (λ e. get_or now e.slot None ≡ get_or slots e.slot None) es → pairs now es ≡ pairs slots es
  pairs-same slots now [] same = refl
  pairs-same slots now (e ∷ es) same = rw (same.0, pairs-same slots now es same.1)

  pub pairs-push : (slots : List (Option T)) (es : List Place) (f : Place)
      → pairs slots (es ++ f ∷ []) ≡ pairs slots es ++ onto f.number (get_or slots f.slot None) []
  pairs-push slots [] f = refl
  pairs-push slots (e ∷ es) f = ap (onto e.number (get_or slots e.slot None)) (pairs-push slots es f)
      ∙ sym (onto-append e.number (get_or slots e.slot None) (pairs slots es) (onto f.number (get_or slots f.slot None) []))

  pub length-pairs : (slots : List (Option T)) (es : List Place) → AreFull slots es → length (pairs slots es) ≡ length es
  length-pairs slots [] full = refl
  length-pairs slots (e ∷ es) full = length-onto _ _ _ full.0 ∙ ap suc (length-pairs slots es full.1)

  pub numbers-pairs : (slots : List (Option T)) (es : List Place) → AreFull slots es → numbers (pairs slots es) ≡ map (λ e. e.number) es
  numbers-pairs slots [] full = refl
  numbers-pairs slots (e ∷ es) full = numbers-onto _ _ _ full.0 ∙ ap (λ ns. e.number ∷ ns) (numbers-pairs slots es full.1)

  pub value_of_absent : (slots : List (Option T)) (es : List Place) (n : ℕ) → IsAbsent n es → value_of n (pairs slots es) ≡ None
  value_of_absent slots [] n absent = refl
  value_of_absent slots (e ∷ es) n absent = value_of-onto_other _ _ _ _ absent.0 ∙ value_of_absent slots es n absent.1

  pub without_absent : (slots : List (Option T)) (es : List Place) (n : ℕ) → IsAbsent n es → without n (pairs slots es) ≡ pairs slots es
  without_absent slots [] n absent = refl
  without_absent slots (e ∷ es) n absent = without-onto_other _ _ _ _ absent.0
      ∙ ap (onto e.number (get_or slots e.slot None)) (without_absent slots es n absent.1)

  pub with_value_absent : (slots : List (Option T)) (es : List Place) (n : ℕ) (w : T) → IsAbsent n es → with_value n w (pairs slots es) ≡ pairs slots es
  with_value_absent slots [] n w absent = refl
  with_value_absent slots (e ∷ es) n w absent = with_value-onto_other _ _ _ _ w absent.0
      ∙ ap (onto e.number (get_or slots e.slot None)) (with_value_absent slots es n w absent.1)

  -- the next number is nobody's
  pub value_of_unborn : (slots : List (Option T)) (es : List Place) (births : ℕ) → AllByRecursion (λ e. e.number < births) es
      → value_of births (pairs slots es) ≡ None
  value_of_unborn slots es births born = value_of_absent slots es births (All-weaker _ _ (λ e lt. omega arith) es born)

  All-onto : (P : ℕ × T → Type 0) (n : ℕ) (o : Option T) (ps : List (ℕ × T)) → ((v : T) → P (n, v)) → AllByRecursion P ps → AllByRecursion P (onto n o ps)
  All-onto P n None ps here all = all
  All-onto P n (Some v) ps here all = (here v, all)

  -- what holds of the numbers in the index holds of the living
  pub All-pairs : (P : ℕ → Type 0) (slots : List (Option T)) (es : List Place) → AllByRecursion (λ e. P e.number) es
      → AllByRecursion (λ p. P p.0) (pairs slots es)
  All-pairs P slots [] all = tt
  All-pairs P slots (e ∷ es) all = All-onto (λ p. P p.0) e.number (get_or slots e.slot None) (pairs slots es) (λ v. all.0) (All-pairs P slots es all.1)

  AreRising-onto : (n : ℕ) (o : Option T) (ps : List (ℕ × T)) → AllByRecursion (λ p. n < p.0) ps → AreRising ps → AreRising (onto n o ps)
  AreRising-onto n None ps later rising = rising
  AreRising-onto n (Some v) ps later rising = (later, rising)

  -- the living stand in the order of the index
  pub AreRising-pairs : (slots : List (Option T)) (es : List Place) → IsRising es → AreRising (pairs slots es)
  AreRising-pairs slots [] rising = tt
  AreRising-pairs slots (e ∷ es) rising =
      AreRising-onto e.number (get_or slots e.slot None) (pairs slots es)
      (All-pairs (λ n. e.number < n) slots es (All-weaker (IsLater e) _ (λ f later. later.number) es rising.0)) (AreRising-pairs slots es rising.1)

  pub value_of_at : (slots : List (Option T)) (es : List Place) (i : ℕ) (d : Place) → IsRising es → AreFull slots es → i < length es
      → value_of (get_or es i d).number (pairs slots es) ≡ get_or slots (get_or es i d).slot None
  value_of_at slots [] i d rising full within = absurd (omega arith)
  value_of_at slots (e ∷ es) zero d rising full within = value_of-onto_here _ _ _ full.0
  value_of_at slots (e ∷ es) (suc i) d rising full within =
      let later = (All-at (IsLater e) es i d (omega arith) rising.0).number in
      let apart : e.number ≢ (get_or es i d).number = omega arith in
      value_of-onto_other _ _ _ _ apart ∙ value_of_at slots es i d rising.1 full.1 (omega arith)

  pub without_at : (slots : List (Option T)) (es : List Place) (i : ℕ) (d : Place) → IsRising es → AreFull slots es → i < length es
      → without (get_or es i d).number (pairs slots es) ≡ pairs slots (remove es i)
  without_at slots [] i d rising full within = absurd (omega arith)
  without_at slots (e ∷ es) zero d rising full within = without-onto_here e.number (get_or slots e.slot None) (pairs slots es)
      ∙ without_absent slots es e.number (later_absent e es rising.0)
  without_at slots (e ∷ es) (suc i) d rising full within =
      let later = (All-at (IsLater e) es i d (omega arith) rising.0).number in
      let apart : e.number ≢ (get_or es i d).number = omega arith in
      without-onto_other _ _ _ _ apart ∙ ap (onto e.number (get_or slots e.slot None)) (without_at slots es i d rising.1 full.1 (omega arith))

  -- a full slot exists
  pub within_slots : (slots : List (Option T)) (key : ℕ) → IsSome (get_or slots key None) → key < length slots
  within_slots slots key some = grind (arith, get_or_past)

  -- to write i's slot is to write its number's value
  pub written_at : (slots : List (Option T)) (es : List Place) (i : ℕ) (d : Place) (w : T) → IsRising es → AreFull slots es → i < length es
      → with_value (get_or es i d).number w (pairs slots es) ≡ pairs (set slots (get_or es i d).slot (Some w)) es
  written_at slots [] i d w rising full within = absurd (omega arith)
  written_at slots (e ∷ es) zero d w rising full within =
      let here = get_or-set_same slots e.slot (Some w) None (within_slots slots e.slot full.0) in
      let rest = pairs-same slots (set slots e.slot (Some w)) es
      (All-weaker (IsLater e) _ (λ f later. get_or-set_other slots e.slot f.slot (Some w) None later.slot) es rising.0) in
      with_value-onto_here e.number _ _ w full.0 ∙ rw (here, rest, with_value_absent slots es e.number w (later_absent e es rising.0))
  written_at slots (e ∷ es) (suc i) d w rising full within =
      let later = All-at (IsLater e) es i d (omega arith) rising.0 in
      let slot = (get_or es i d).slot in
      let here = get_or-set_other slots slot e.slot (Some w) None (λ same. later.slot (sym same)) in
      let number = later.number in
      let apart : e.number ≢ (get_or es i d).number = omega arith in
      with_value-onto_other e.number (get_or es i d).number (get_or slots e.slot None) (pairs slots es) w apart
      ∙ rw (here, written_at slots es i d w rising.1 full.1 (omega arith))

  -- a full slot stays full when it is written
  pub AreFull-write : (slots : List (Option T)) (es : List Place) (key : ℕ) (w : T) → AreFull slots es → IsSome (get_or slots key None)
      → AreFull (set slots key (Some w)) es
  AreFull-write slots es key w full some = All-weaker _ _
      (λ e was.
      grind (arith, nat_tests, get_or-set_same slots key (Some w) None (within_slots slots key some), get_or-set_other slots key e.slot (Some w) None))
      es full

-- any place, to read past an end
abbrev no_place : Place
no_place = record { number = 0; slot = 0 }

module _ (es : List Place) (rising : IsRising es) (n : ℕ) where
  -- the index is sorted by its comparison with n
  comparisons_rise : IsNonDecreasingBy (λ e. ordering_index (nat_cmp e.number n)) es
  comparisons_rise = IsNonDecreasingBy-from_default (λ e. ordering_index (nat_cmp e.number n)) es no_place (λ i j le within.
      let numbers_rise : (get_or es i no_place).number
      ≤ (get_or es j no_place).number = grind (arith, rises es i j no_place rising, λ (same : i ≡ j). ap (λ k. (get_or es k no_place).number) same) in
      grind (arith, nat_tests))

  -- what the search answers: n's place, or that n isn't there
  pub searched : (r : Result ℕ ℕ) → IsSearchInRange r (length es) → IsBinarySearchResult (λ e. nat_cmp e.number n) es r
      → record { absent : IfNone (result_ok r) (IsAbsent n es); found : IfSome (result_ok r) (IsAt n es) }
  searched (Ok at) within equal = record { absent = tt; found = record { within = within; here = λ d. ranked _ n _ (sym (equal d)) } }
  searched (Err at) within parted =
      let smaller = (parted comparisons_rise).0 in
      let greater = (parted comparisons_rise).1 in
      record {
        absent = recursion_from_All (λ e. e.number ≢ n) es (All-from_get_or (λ e. e.number ≢ n) es no_place (λ i lt same. elim (cases_lt i at) [
          | inl below ↦ omega (arith, ranked _ n _ (sym (smaller i no_place (omega arith) below)))
          | inr above ↦ omega (arith, ranked _ n _ (sym (greater i no_place above lt)))
        ]));
        found = tt;
      }

module _ {T : Type 0} (slots : List (Option T)) (es : List Place) (rising : IsRising es) (full : AreFull slots es) (n i : ℕ) (e : Place)
    (at : IsAt n es i) (read : e ≡ get_or es i e) where
  pub found_full : IsSome (get_or slots e.slot None)
  found_full = rw (← read) at (All-at _ es i e at.within full)

  pub found_value : value_of n (pairs slots es) ≡ get_or slots e.slot None
  found_value = rw (at.here e, ← read) at (value_of_at slots es i e rising full at.within)

  pub found_without : without n (pairs slots es) ≡ pairs slots (remove es i)
  found_without = rw (at.here e) at (without_at slots es i e rising full at.within)

  pub found_written : (w : T) → with_value n w (pairs slots es) ≡ pairs (set slots e.slot (Some w)) es
  found_written w = rw (at.here e, ← read) at (written_at slots es i e w rising full at.within)

  pub found_apart : AllByRecursion (λ f. f.slot ≢ e.slot) (remove es i)
  found_apart = rw (← read) at (others_apart es i e rising at.within)

module _ {T : Type 0} (slots now : List (Option T)) (key : ℕ) (others : (other : ℕ) → other ≢ key → get_or now other None ≡ get_or slots other None) where
  -- one slot changed, which the index doesn't name: the list is the same
  pub pairs-others : (es : List Place) → AllByRecursion (λ e. e.slot ≢ key) es → pairs now es ≡ pairs slots es
  pairs-others es apart = pairs-same slots now es (All-weaker _ _ (λ e. others e.slot) es apart)

  pub AreFull-others : (es : List Place) → AllByRecursion (λ e. e.slot ≢ key) es → AreFull slots es → AreFull now es
  AreFull-others es apart full = All-both _ _ _ (λ e differs was. ap is_some (others e.slot differs) ∙ was) es apart full

-- the place of a number in the list of pairs is its place in the index
pub at_number : {T : Type 0} (slots : List (Option T)) (es : List Place) (n i : ℕ) → AreFull slots es → i < length (pairs slots es)
    → slice_index (numbers (pairs slots es)) i ≡ n → IsAt n es i
at_number slots es n i full within here =
    let longer = length-pairs slots es full in
    let inside : i < length es = omega arith in
    record { within = inside; here = λ d. sym (get_or-map (λ e. e.number) es i d 0 inside) ∙ (rw (numbers-pairs slots es full) at here) }

-- the index names no vacant slot
pub vacant_apart : {T : Type 0} (slots : List (Option T)) (es : List Place) (key : ℕ) → AreFull slots es → get_or slots key None ≡ None
    → AllByRecursion (λ e. e.slot ≢ key) es
vacant_apart slots es key full vacant = All-weaker _ _ (λ e was same. false≢true (sym (ap is_some (ap (λ k. get_or slots k None) same ∙ vacant)) ∙ was)) es full

module _ {T : Type 0} (slots now : List (Option T)) (key : ℕ) (value : T) (es : List Place) (births : ℕ) (full : AreFull slots es)
    (vacant : get_or slots key None ≡ None) (changed : get_or now key None ≡ Some value)
    (others : (other : ℕ) → other ≢ key → get_or now other None ≡ get_or slots other None) where
  -- who is born stands last
  pub inserted_pairs : pairs now (es ++ record { number = births; slot = key } ∷ []) ≡ pairs slots es ++ (births, value) ∷ []
  inserted_pairs =
      pairs-push now es (record { number = births; slot = key })
      ∙ rw (changed, pairs-others slots now key others es (vacant_apart slots es key full vacant)) refl

  pub IsSound-insert : (capacity room limit places : ℕ) → IsSound slots capacity es room births limit places → length es < places
      → births ≢ limit → count_by is_some now ≡ count_by is_some slots + 1
      → IsSound now capacity (es ++ record { number = births; slot = key } ∷ []) room (births + 1) limit places
  IsSound-insert capacity room limit places sound fits differs counted =
      let apart = vacant_apart slots es key full vacant in
      let longer = length_push es (record { number = births; slot = key }) in
      record {
        rising = IsRising-push es _ sound.rising
            (All-both _ _ _ (λ e born differs. record { number = born; slot = λ same. differs (sym same) }) es sound.born apart);
        full = All-push _ es _ (AreFull-others slots now key others es apart full) (ap is_some changed);
        born = All-push _ es _ (All-weaker _ _ (λ e lt. omega arith) es sound.born) (omega arith);
        counted = omega (arith, sound.counted);
        births_fit = omega (arith, sound.births_fit);
        live_fit = omega arith;
        values_fit = sound.values_fit;
        places_fit = sound.places_fit;
      }

pub IsSound-remove : {T : Type 0} (slots now : List (Option T)) (key i : ℕ) (es : List Place) (capacity room births limit places : ℕ)
    → ((other : ℕ) → other ≢ key → get_or now other None ≡ get_or slots other None) → i < length es
    → AllByRecursion (λ e. e.slot ≢ key) (remove es i) → count_by is_some now + 1 ≡ count_by is_some slots
    → IsSound slots capacity es room births limit places → IsSound now capacity (remove es i) room births limit places
IsSound-remove slots now key i es capacity room births limit places others within apart counted sound =
    let shorter = length-remove es i within in
    record {
      rising = IsRising-remove es i sound.rising;
      full = AreFull-others slots now key others _ apart (All-remove _ es i sound.full);
      born = All-remove _ es i sound.born;
      counted = omega (arith, sound.counted);
      births_fit = sound.births_fit;
      live_fit = omega (arith, sound.live_fit);
      values_fit = sound.values_fit;
      places_fit = sound.places_fit;
    }

one_if_some : {T : Type 0} (o : Option T) → IsSome o → ◌≡◌ {A = ℕ} (cond (is_some o) 1 0) 1
one_if_some None some = absurd (cc)
one_if_some (Some v) some = refl

count-write : {T : Type 0} (slots : List (Option T)) (key : ℕ) (w : T) → IsSome (get_or slots key None)
    → count_by is_some (set slots key (Some w)) ≡ count_by is_some slots
count-write slots key w some =
    omega (arith, sum_by-set (λ o. cond (is_some o) 1 0) slots key (Some w) None (within_slots slots key some), one_if_some (get_or slots key None) some)

-- a value written over another keeps all in order
pub IsSound-write : {T : Type 0} (slots : List (Option T)) (key : ℕ) (w : T) (es : List Place) (capacity room births limit places : ℕ)
    → IsSome (get_or slots key None) → IsSound slots capacity es room births limit places
    → IsSound (set slots key (Some w)) capacity es room births limit places
IsSound-write slots key w es capacity room births limit places some sound =
    let same = count-write slots key w some in
    record {
      rising = sound.rising;
      full = AreFull-write slots es key w sound.full some;
      born = sound.born;
      counted = omega (arith, sound.counted);
      births_fit = sound.births_fit;
      live_fit = sound.live_fit;
      values_fit = sound.values_fit;
      places_fit = sound.places_fit;
    }

-- to live is to be found in the index
pub live_iff : {T : Type 0} (slots : List (Option T)) (es : List Place) (rising : IsRising es) (full : AreFull slots es) (n : ℕ) (o : Option ℕ)
    → IfNone o (IsAbsent n es) → IfSome o (IsAt n es) → is_some (value_of n (pairs slots es)) ≡ is_some o
live_iff slots es rising full n None absent found = ap is_some (value_of_absent slots es n absent)
live_iff slots es rising full n (Some i) absent found =
    ap is_some (rw (found.here no_place) at (value_of_at slots es i no_place rising full found.within)) ∙ All-at _ es i no_place found.within full
