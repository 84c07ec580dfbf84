-- The index: strays by rising numbers, and cells.
use Rattle.lwp_types.specs.State.{passes}
use Rattle.lists.specs.ThreadIndex.{IsAbsent, IsAt, IsEmpty, IsGapAt, IsHome, IsIndexed, IsKept, IsMask, IsRising, Puts, cell_in, home, is_entry_of}
use Rattle.lists.specs.ThreadIndex.{place_in, place_of, place_or, no_entry, without_entry}
use Rattle.lists.specs.declared.thread_index.Entry.{Entry}
use Rattle.std.proofs.Common.{Bool, Err, IfNone, IfSome, IsSome, Ok, Result, get_or, get_or-set_other, get_or-set_same, inl, inr, is_some}
use Rattle.std.proofs.Common.{length-set, replicate, set, suc, zero, ◌<◌, List, None, Option, Some, [], ap, arith, cond, eqb, false, length, not}
use Rattle.std.proofs.Common.{option_map, refl, subst, sym, true, ℕ, ◌+◌, ◌∙◌, ◌∷◌, ◌≡◌, ◌≢◌, ◌≤◌}
use Rattle.lists.proofs.LivingLemmas.{held, living-set, none_living}
use Rattle.lists.specs.Living.{living}
use Rattle.std.proofs.lemmas.Bool.{cases_eq, cases_lt, eq-eqb, eqb-false, eqb-true, ne_eqb}
use Rattle.std.proofs.lemmas.Bool.Decides.{nat_tests}
use Rattle.std.proofs.lemmas.Cmp.{ranked}
use Rattle.std.proofs.lemmas.List.Elements.{All-from_get_or, recursion_from_All}
use Rattle.std.proofs.lemmas.List.Sorted.{IsNonDecreasingBy-from_default}
use Rattle.std.specs.List.{AllByRecursion, find, insert, remove}
use Rattle.std.specs.List.Sorted.{IsBinarySearchResult, IsNonDecreasingBy, IsSearchInRange}
use Rattle.std.specs.Ordering.{nat_cmp, ordering_index}
use Rattle.std.proofs.lemmas.List.{length-replicate}
use Rattle.std.specs.Result.{result_err, result_ok}
use lib.Bits.{and_le_r}

find_gone : (n : ℕ) (es : List Entry) → find (is_entry_of n) (without_entry n es) ≡ None
find_gone n [] = refl
find_gone n (e ∷ es) = by_test (eqb e.number n) refl (find_gone n es)
  where
    by_test : (t : Bool) → eqb e.number n ≡ t → find (is_entry_of n) (without_entry n es) ≡ None
        → find (is_entry_of n) (cond (not t) (e ∷ without_entry n es) (without_entry n es)) ≡ None
    by_test true is rest = rest
    by_test false is rest = rw is rest

find_kept : (n m : ℕ) (es : List Entry) → m ≢ n → find (is_entry_of m) (without_entry n es) ≡ find (is_entry_of m) es
find_kept n m [] differs = refl
find_kept n m (e ∷ es) differs = by_test (eqb e.number n) refl (find_kept n m es differs)
  where
    by_test : (t : Bool) → eqb e.number n ≡ t → find (is_entry_of m) (without_entry n es) ≡ find (is_entry_of m) es
        → find (is_entry_of m) (cond (not t) (e ∷ without_entry n es) (without_entry n es)) ≡ cond (eqb e.number m) (Some e) (find (is_entry_of m) es)
    by_test true is rest =
        let other : eqb e.number m ≡ false = ne_eqb _ _ (λ same. differs (sym same ∙ eqb-true _ _ is)) in
        rw other rest
    by_test false is rest = ap (λ o. cond (eqb e.number m) (Some e) o) rest

pub Puts-gone : (n : ℕ) (es es' : List Entry) → es' ≡ without_entry n es → Puts (place_in es) (place_in es') n None
Puts-gone n es es' is = record {
  here = rw is (ap (option_map (λ (e : Entry). e.place)) (find_gone n es));
  others = λ m differs. rw is (ap (option_map (λ (e : Entry). e.place)) (find_kept n m es differs));
}

-- ---- rising numbers

All-at : (P : Entry → Type 0) (es : List Entry) (i : ℕ) (d : Entry) → i < length es → AllByRecursion P es → P (get_or es i d)
All-at P [] i d within all = absurd (omega arith)
All-at P (e ∷ es) zero d within all = all.0
All-at P (e ∷ es) (suc i) d within all = All-at P es i d (omega arith) all.1

pub rises : (es : List Entry) (i j : ℕ) (d : Entry) → IsRising es → i < j → j < length es → (get_or es i d).number < (get_or es j d).number
rises [] i j d rising lt within = absurd (omega arith)
rises (e ∷ es) zero zero d rising lt within = absurd (omega arith)
rises (e ∷ es) zero (suc j) d rising lt within = All-at (λ f. e.number < f.number) es j d (omega arith) rising.0
rises (e ∷ es) (suc i) zero d rising lt within = absurd (omega arith)
rises (e ∷ es) (suc i) (suc j) d rising lt within = rises es i j d rising.1 (omega arith) (omega arith)

pub find_at : (n : ℕ) (es : List Entry) (i : ℕ) (d : Entry) → IsRising es → i < length es → (get_or es i d).number ≡ n
    → find (is_entry_of n) es ≡ Some (get_or es i d)
find_at n [] i d rising within here = absurd (omega arith)
find_at n (e ∷ es) zero d rising within here = rw (eq-eqb e.number n here) refl
find_at n (e ∷ es) (suc i) d rising within here =
    let less : e.number < (get_or es i d).number = All-at (λ f. e.number < f.number) es i d (omega arith) rising.0 in
    rw (ne_eqb e.number n (λ same. absurd (omega (arith, less, here, same)))) (find_at n es i d rising.1 (omega arith) here)

pub find_absent : (n : ℕ) (es : List Entry) → IsAbsent n es → find (is_entry_of n) es ≡ None
find_absent n [] absent = refl
find_absent n (e ∷ es) absent = rw (ne_eqb e.number n absent.0) (find_absent n es absent.1)

All-kept : (P : Entry → Type 0) (n : ℕ) (es : List Entry) → AllByRecursion P es → AllByRecursion P (without_entry n es)
All-kept P n [] all = tt
All-kept P n (e ∷ es) all = by_test (eqb e.number n) (All-kept P n es all.1)
  where
    by_test : (t : Bool) → AllByRecursion P (without_entry n es) → AllByRecursion P (cond (not t) (e ∷ without_entry n es) (without_entry n es))
    by_test true rest = rest
    by_test false rest = (all.0, rest)

pub IsRising-kept : (n : ℕ) (es : List Entry) → IsRising es → IsRising (without_entry n es)
IsRising-kept n [] rising = tt
IsRising-kept n (e ∷ es) rising = by_test (eqb e.number n) (IsRising-kept n es rising.1)
  where
    by_test : (t : Bool) → IsRising (without_entry n es) → IsRising (cond (not t) (e ∷ without_entry n es) (without_entry n es))
    by_test true rest = rest
    by_test false rest = (All-kept (λ f. e.number < f.number) n es rising.0, rest)

module _ (es : List Entry) (rising : IsRising es) (n : ℕ) where
  -- the entries are sorted by their comparison with n
  sorted : IsNonDecreasingBy (λ e. ordering_index (nat_cmp e.number n)) es
  sorted = IsNonDecreasingBy-from_default (λ e. ordering_index (nat_cmp e.number n)) es no_entry (λ i j le within.
      let numbers_rise : (get_or es i no_entry).number
      ≤ (get_or es j no_entry).number = grind (arith, rises es i j no_entry rising, λ (same : i ≡ j). ap (λ k. (get_or es k no_entry).number) same) in
      grind (arith, nat_tests))

  -- what the search answers: the place of n, or that there is none
  pub searched : (r : Result ℕ ℕ) → IsSearchInRange r (length es) → IsBinarySearchResult (λ e. nat_cmp e.number n) es r
      → record { absent : IfNone (result_ok r) (IsAbsent n es); found : IfSome (result_ok r) (IsAt n es) }
  searched (Ok at) within equal = record { absent = tt; found = record { within = within; here = λ d. ranked _ n _ (sym (equal d)) } }
  searched (Err at) within parted =
      let smaller = (parted sorted).0 in
      let greater = (parted sorted).1 in
      record {
        absent = recursion_from_All (λ e. e.number ≢ n) es (All-from_get_or (λ e. e.number ≢ n) es no_entry (λ i lt same. elim (cases_lt i at) [
          | inl below ↦ omega (arith, ranked _ n _ (sym (smaller i no_entry (omega arith) below)))
          | inr above ↦ omega (arith, ranked _ n _ (sym (greater i no_entry above lt)))
        ]));
        found = tt;
      }

  -- where n belongs, or that it is there
  pub parted : (r : Result ℕ ℕ) → IsSearchInRange r (length es) → IsBinarySearchResult (λ e. nat_cmp e.number n) es r
      → record { gap : IfSome (result_err r) (IsGapAt n es); found : IfNone (result_err r) (IsSome (find (is_entry_of n) es)) }
  parted (Ok at) within equal = record { gap = tt; found = rw (find_at n es at no_entry rising within (ranked _ n _ (sym (equal no_entry)))) refl }
  parted (Err at) within split =
      let smaller = (split sorted).0 in
      let greater = (split sorted).1 in
      record {
        gap = record {
          within = within;
          below = λ j d lt. ranked _ n _ (sym (smaller j d (omega (arith, within)) lt));
          above = λ j d ge lt. ranked _ n _ (sym (greater j d ge lt));
        };
        found = tt;
      }

-- ---- one entry more

All-insert : (P : Entry → Type 0) (es : List Entry) (at : ℕ) (e : Entry) → at ≤ length es → AllByRecursion P es → P e → AllByRecursion P (insert es at e)
All-insert P es zero e within all of_e = (of_e, all)
All-insert P [] (suc at) e within all of_e = absurd (omega arith)
All-insert P (f ∷ es) (suc at) e within all of_e = (all.0, All-insert P es at e (omega arith) all.1 of_e)

pub IsRising-insert : (es : List Entry) (at : ℕ) (e : Entry) → IsRising es → IsGapAt e.number es at → IsRising (insert es at e)
IsRising-insert es zero e rising gap = (
  recursion_from_All (λ f. e.number < f.number) es (All-from_get_or (λ f. e.number < f.number) es no_entry (λ j lt. gap.above j no_entry (omega arith) lt)),
  rising,
)
IsRising-insert [] (suc at) e rising gap = absurd (omega (arith, gap.within))
IsRising-insert (f ∷ es) (suc at) e rising gap = (
  All-insert (λ g. f.number < g.number) es at e (omega (arith, gap.within)) rising.0 (gap.below 0 no_entry (omega arith)),
  IsRising-insert es at e rising.1 (record {
    within = omega (arith, gap.within);
    below = λ j d lt. gap.below (suc j) d (omega arith);
    above = λ j d ge lt. gap.above (suc j) d (omega arith) (omega arith);
  }),
)

find_inserted : (n place : ℕ) (es : List Entry) (at : ℕ) → at ≤ length es → find (is_entry_of n) es ≡ None
    → find (is_entry_of n) (insert es at (record { number = n; place = place })) ≡ Some (record { number = n; place = place })
find_inserted n place es zero within none = rw (eq-eqb n n refl) refl
find_inserted n place [] (suc at) within none = absurd (omega arith)
find_inserted n place (e ∷ es) (suc at) within none = by_test (eqb e.number n) (find_inserted n place es at (omega arith)) none
  where
    by_test : (t : Bool)
        → (find (is_entry_of n) es ≡ None
        → find (is_entry_of n) (insert es at (record { number = n; place = place })) ≡ Some (record { number = n; place = place }))
        → cond t (Some e) (find (is_entry_of n) es) ≡ None
        → cond t (Some e) (find (is_entry_of n) (insert es at (record { number = n; place = place }))) ≡ Some (record { number = n; place = place })
    by_test true rest none = absurd (cc)
    by_test false rest none = rest none

find_past : (n m place : ℕ) (es : List Entry) (at : ℕ) → at ≤ length es → m ≢ n
    → find (is_entry_of m) (insert es at (record { number = n; place = place })) ≡ find (is_entry_of m) es
find_past n m place es zero within differs = rw (ne_eqb n m (λ same. differs (sym same))) refl
find_past n m place [] (suc at) within differs = absurd (omega arith)
find_past n m place (e ∷ es) (suc at) within differs = ap (λ o. cond (eqb e.number m) (Some e) o) (find_past n m place es at (omega arith) differs)

none_under : (o : Option Entry) → option_map (λ (e : Entry). e.place) o ≡ None → o ≡ None
none_under None is = refl
none_under (Some e) is = absurd (cc)

pub Puts-inserted : (n place : ℕ) (es es' : List Entry) (at : ℕ) → es' ≡ insert es at (record { number = n; place = place })
    → at ≤ length es → place_in es n ≡ None → Puts (place_in es) (place_in es') n (Some place)
Puts-inserted n place es es' at is within none = record {
  here = rw is (ap (option_map (λ (e : Entry). e.place)) (find_inserted n place es at within (none_under (find (is_entry_of n) es) none)));
  others = λ m differs. rw is (ap (option_map (λ (e : Entry). e.place)) (find_past n m place es at within differs));
}

-- what has no place isn't found
pub not_found : (n : ℕ) (es : List Entry) → place_in es n ≡ None → IsSome (find (is_entry_of n) es) → ⊥
not_found n es none some = by_case (find (is_entry_of n) es) none some
  where
    by_case : (o : Option Entry) → option_map (λ (e : Entry). e.place) o ≡ None → IsSome o → ⊥
    by_case None is there = absurd (cc)
    by_case (Some e) is there = absurd (cc)

-- ---- one entry less

pub absent_stays : (n : ℕ) (es : List Entry) → IsAbsent n es → without_entry n es ≡ es
absent_stays n [] absent = refl
absent_stays n (e ∷ es) absent = rw (ne_eqb e.number n absent.0) (ap (λ fs. e ∷ fs) (absent_stays n es absent.1))

All-absent : (n : ℕ) (es : List Entry) → AllByRecursion (λ f. n < f.number) es → IsAbsent n es
All-absent n [] all = tt
All-absent n (e ∷ es) all = ((λ same. omega (arith, all.0, same)), All-absent n es all.1)

pub one_gone : (n : ℕ) (es : List Entry) → IsRising es → IsSome (place_in es n) → length (without_entry n es) + 1 ≡ length es
one_gone n [] rising some = absurd (cc)
one_gone n (e ∷ es) rising some = by_test (eqb e.number n) refl (one_gone n es rising.1) some
  where
    by_test : (t : Bool) → eqb e.number n ≡ t → (IsSome (place_in es n) → length (without_entry n es) + 1 ≡ length es)
        → IsSome (option_map (λ (p : Entry). p.place) (cond t (Some e) (find (is_entry_of n) es)))
        → length (cond (not t) (e ∷ without_entry n es) (without_entry n es)) + 1 ≡ length (e ∷ es)
    by_test true is rest some =
        let same : e.number ≡ n = eqb-true e.number n is in
        omega (arith, ap length (absent_stays n es (All-absent n es (rw same at rising.0))))
    by_test false is rest some = omega (arith, rest some)

pub remove_at : (n : ℕ) (es : List Entry) (at : ℕ) → IsRising es → IsAt n es at → remove es at ≡ without_entry n es
remove_at n [] at rising here = absurd (omega (arith, here.within))
remove_at n (e ∷ es) zero rising here =
    let is : e.number ≡ n = here.here no_entry in
    rw (eq-eqb e.number n is) (sym (absent_stays n es (All-absent n es (rw is at rising.0))))
remove_at n (e ∷ es) (suc at) rising here =
    let is : (get_or es at no_entry).number ≡ n = here.here no_entry in
    let less : e.number < (get_or es at no_entry).number = All-at (λ f. e.number < f.number) es at no_entry (omega (arith, here.within)) rising.0 in
    rw (ne_eqb e.number n (λ same. absurd (omega (arith, less, is, same)))) (ap (λ fs. e ∷ fs)
    (remove_at n es at rising.1 (record { within = omega (arith, here.within); here = λ d. here.here d })))

-- ---- the cells

-- the entry of a number
abbrev pub entry_of : ℕ → ℕ → Entry
entry_of n place = record { number = n; place = place }

-- by a cell that has another's entry or none the place isn't found
not_by_cell : (t : ℕ) (other : Option ℕ) (c : Option Entry) → passes (is_entry_of t) c ≡ false → place_or t other c ≡ other
not_by_cell t other None away = refl
not_by_cell t other (Some e) away = rw away refl

-- an entry of another number is none of this one
foreign : (t : ℕ) (e : Entry) → e.number ≢ t → passes (is_entry_of t) (Some e) ≡ false
foreign t e away = ne_eqb e.number t away

module _ (cells : List (Option Entry)) (mask : ℕ) (strays : List Entry) (was : IsIndexed cells mask strays) where
  -- an entry of this number stands in its cell, and in no other
  not_elsewhere : (n : ℕ) → passes (is_entry_of n) (cell_in cells mask n) ≡ false → (i : ℕ) (e : Entry) → get_or cells i None ≡ Some e → e.number ≢ n
  not_elsewhere n away i e is same =
      let homed = subst (λ c. IfSome c (IsHome mask strays i)) is (was.homes i) in
      let at : home mask n ≡ i = ap (home mask) (sym same) ∙ homed.cell in
      let own : cell_in cells mask n ≡ Some e = ap (λ j. get_or cells j None) at ∙ is in
      let differs : passes (is_entry_of n) (Some e) ≡ false = ap (passes (is_entry_of n)) (sym own) ∙ away in
      eqb-false _ _ differs same

  -- ---- a cell is written

  module _ (n : ℕ) (some : 1 ≤ length cells) (c : Option Entry) where
    here_in : home mask n < length cells
    here_in = omega (arith, and_le_r n mask, was.masked some)

    masked_set : IsMask mask (set cells (home mask n) c)
    masked_set = rw (length-set cells (home mask n) c) was.masked

    cell_here : (m : ℕ) → home mask m ≡ home mask n → cell_in (set cells (home mask n) c) mask m ≡ c
    cell_here m same = ap (λ j. get_or (set cells (home mask n) c) j None) same ∙ get_or-set_same cells (home mask n) c None here_in

    cell_other : (m : ℕ) → home mask m ≢ home mask n → cell_in (set cells (home mask n) c) mask m ≡ cell_in cells mask m
    cell_other m away = get_or-set_other cells (home mask n) (home mask m) c None away

    homes_set : IfSome c (IsHome mask strays (home mask n)) → (i : ℕ) → IfSome (get_or (set cells (home mask n) c) i None) (IsHome mask strays i)
    homes_set new i = elim (cases_eq i (home mask n)) [
      | inl same ↦ rw (same, get_or-set_same cells (home mask n) c None here_in) new
      | inr away ↦ rw (get_or-set_other cells (home mask n) i c None away) (was.homes i)
    ]

    -- the others are found as before
    others_set : (passed : (m : ℕ) → m ≢ n → passes (is_entry_of m) c ≡ false)
        → ((m : ℕ) → m ≢ n → passes (is_entry_of m) (cell_in cells mask n) ≡ false) → (m : ℕ) → m ≢ n
        → place_or m (place_in strays m) (cell_in (set cells (home mask n) c) mask m) ≡ place_or m (place_in strays m) (cell_in cells mask m)
    others_set passed before m away = elim (cases_eq (home mask m) (home mask n)) [
      | inl same ↦
          let was_cell : cell_in cells mask m ≡ cell_in cells mask n = ap (λ j. get_or cells j None) same in
          rw (cell_here m same, was_cell)
          (not_by_cell m (place_in strays m) c (passed m away) ∙ sym (not_by_cell m (place_in strays m) (cell_in cells mask n) (before m away)))
      | inr apart ↦ rw (cell_other m apart) refl
    ]

  module _ (n place room : ℕ) (some : 1 ≤ length cells) where
    -- an empty cell gets an entry
    module _ (empty : cell_in cells mask n ≡ None) (new : place_or n (place_in strays n) (cell_in cells mask n) ≡ None) where
      no_stray : place_in strays n ≡ None
      no_stray = sym (ap (place_or n (place_in strays n)) empty) ∙ new

      pub IsIndexed-put : IsIndexed (set cells (home mask n) (Some (entry_of n place))) mask strays
      IsIndexed-put = record {
        masked = masked_set n some (Some (entry_of n place));
        rising = was.rising;
        homes = homes_set n some (Some (entry_of n place)) (record { cell = refl; alone = no_stray });
      }

      pub Puts-cell : Puts (place_of (record { cells = cells; mask = mask; strays = strays; room = room }))
          (place_of (record { cells = set cells (home mask n) (Some (entry_of n place)); mask = mask; strays = strays; room = room })) n (Some place)
      Puts-cell = record {
        here = ap (place_or n (place_in strays n)) (cell_here n some (Some (entry_of n place)) n refl) ∙ (rw (eq-eqb n n refl) refl);
        others = others_set n some (Some (entry_of n place)) (λ m away. foreign m (entry_of n place) (λ same. away (sym same))) (λ m away. rw empty refl);
      }

      pub count-cell : length (living (set cells (home mask n) (Some (entry_of n place)))) + length strays ≡ length (living cells) + length strays + 1
      count-cell = omega (arith, living-set cells (home mask n) (Some (entry_of n place)) (here_in n some None), ap held empty)

    -- its own entry goes
    module _ (own : passes (is_entry_of n) (cell_in cells mask n) ≡ true) where
      entry_there : (c : Option Entry) → cell_in cells mask n ≡ c → passes (is_entry_of n) c ≡ true
          → (place_in strays n ≡ None) × (held c ≡ 1) × ((m : ℕ) → m ≢ n → passes (is_entry_of m) c ≡ false)
      entry_there None is passed = absurd (cc)
      entry_there (Some e) is passed =
          let homed = subst (λ c. IfSome c (IsHome mask strays (home mask n))) is (was.homes (home mask n)) in
          let same : e.number ≡ n = eqb-true _ _ passed in
          (ap (place_in strays) (sym same) ∙ homed.alone, refl, λ m away. foreign m e (λ again. away (sym again ∙ same)))

      facts : (place_in strays n ≡ None) × (held (cell_in cells mask n) ≡ 1) × ((m : ℕ) → m ≢ n → passes (is_entry_of m) (cell_in cells mask n) ≡ false)
      facts = entry_there (cell_in cells mask n) refl own

      pub IsIndexed-take : IsIndexed (set cells (home mask n) None) mask strays
      IsIndexed-take = record { masked = masked_set n some None; rising = was.rising; homes = homes_set n some None tt }

      pub Puts-take : Puts (place_of (record { cells = cells; mask = mask; strays = strays; room = room }))
          (place_of (record { cells = set cells (home mask n) None; mask = mask; strays = strays; room = room })) n None
      Puts-take = record {
        here = ap (place_or n (place_in strays n)) (cell_here n some None n refl) ∙ facts.0;
        others = others_set n some None (λ m away. refl) facts.2;
      }

      pub count-take : length (living (set cells (home mask n) None)) + length strays + 1 ≡ length (living cells) + length strays
      count-take = omega (arith, living-set cells (home mask n) None (here_in n some None), facts.1)

  -- ---- the strays change

  module _ (n room : ℕ) (away : passes (is_entry_of n) (cell_in cells mask n) ≡ false) (strays' : List Entry) (o : Option ℕ)
      (rising : IsRising strays') (puts : Puts (place_in strays) (place_in strays') n o) where
    pub IsIndexed-strays : IsIndexed cells mask strays'
    IsIndexed-strays = record { masked = was.masked; rising = rising; homes = λ i. by_cell i (get_or cells i None) refl (was.homes i) }
      where
        by_cell : (i : ℕ) (c : Option Entry) → get_or cells i None ≡ c → IfSome c (IsHome mask strays i) → IfSome c (IsHome mask strays' i)
        by_cell i None is homed = tt
        by_cell i (Some e) is homed = record { cell = homed.cell; alone = puts.others e.number (not_elsewhere n away i e is) ∙ homed.alone }

    pub Puts-strays : Puts (place_of (record { cells = cells; mask = mask; strays = strays; room = room }))
        (place_of (record { cells = cells; mask = mask; strays = strays'; room = room })) n o
    Puts-strays = record {
      here = not_by_cell n (place_in strays' n) (cell_in cells mask n) away ∙ puts.here;
      others = λ m differs. ap (λ other. place_or m other (cell_in cells mask m)) (puts.others m differs);
    }

-- no entry anywhere
pub IsIndexed-bare : (cells : List (Option Entry)) (mask : ℕ) → IsMask mask cells → ((i : ℕ) → get_or cells i None ≡ None) → IsIndexed cells mask []
IsIndexed-bare cells mask masked none = record { masked = masked; rising = tt; homes = λ i. rw (none i) tt }

pub IsEmpty-bare : (cells : List (Option Entry)) (mask room : ℕ) → ((i : ℕ) → get_or cells i None ≡ None)
    → IsEmpty (record { cells = cells; mask = mask; strays = []; room = room })
IsEmpty-bare cells mask room none = record { nobody = λ t. rw (none (home mask t)) refl; none = omega (arith, ap length (none_living cells none)) }

abbrev pub no_cell : Option Entry
no_cell = None

pub bare_cells : (n i : ℕ) → get_or (replicate n no_cell) i None ≡ None
bare_cells zero i = refl
bare_cells (suc n) zero = refl
bare_cells (suc n) (suc i) = bare_cells n i

pub not_some : (c : Option Entry) → is_some c ≡ false → c ≡ None
not_some None is = refl
not_some (Some e) is = absurd (cc)

pub some_stray : (t : ℕ) (other : Option ℕ) (c : Option Entry) → passes (is_entry_of t) c ≡ false → IsSome (place_or t other c) → IsSome other
some_stray t other c away some = rw (not_by_cell t other c away) at some

-- who has an entry in a cell has cells
pub wide : (cells : List (Option Entry)) (mask n : ℕ) → passes (is_entry_of n) (cell_in cells mask n) ≡ true → 1 ≤ length cells
wide [] mask n own = absurd (cc)
wide (c ∷ cells) mask n own = omega arith

pub IsKept-bare : (n mask : ℕ) → (1 ≤ n → mask < n) → IsKept (replicate n no_cell) mask [] 0
IsKept-bare n mask masked = record {
  indexed = IsIndexed-bare (replicate n no_cell) mask (rw (length-replicate {A = Option Entry} n no_cell) masked) (bare_cells n);
  counted = sym (IsEmpty-bare (replicate n no_cell) mask 0 (bare_cells n)).none;
}

-- whose place isn't found has no entry in its cell
pub not_own : (t : ℕ) (other : Option ℕ) (c : Option Entry) → place_or t other c ≡ None → passes (is_entry_of t) c ≡ false
not_own t other None none = refl
not_own t other (Some e) none = by_test (is_entry_of t e) none
  where
    by_test : (b : Bool) → cond b (Some e.place) other ≡ None → b ≡ false
    by_test true is = absurd (cc)
    by_test false is = refl
