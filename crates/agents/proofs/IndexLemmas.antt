-- The index: what comes before and after a place, what is read there, and what each change leaves.
use Rattle.agents.specs.Index.{AreOrdered, IsBefore, IsCut, IsPastLesser, Puts, is_before, is_below, is_under, is_up_to, numbers_under}
use Rattle.agents.specs.declared.index.Entry.{Entry}
use Rattle.lwp_types.specs.State.{all_below, member, without}
use Rattle.std.proofs.Common.{Bool, List, None, Option, Some, [], ap, arith, cond, drop, eqb, false, get_or, length, ltb, map, not}
use Rattle.std.proofs.Common.{refl, slice_get, suc, sym, take, true, zero, ℕ, ◌++◌, ◌-◌, ◌<◌, ◌∙◌, ◌∷◌, ◌||◌, ◌≡◌, ◌≢◌, ◌≤◌}
use Rattle.std.proofs.lemmas.Bool.{and_parts, eq-eqb, eqb-true, lt-ltb, ltb-true, ne_eqb}
use Rattle.std.proofs.lemmas.Bool.Decides.{nat_tests}
use Rattle.std.proofs.lemmas.List.{take_rest}
use Rattle.std.proofs.lemmas.List.Elements.{recursion_from_All}
use Rattle.std.specs.List.{AllByRecursion, AllWithin, filter, insert, remove}
use Rattle.std.specs.List.Sorted.{IsPartitionPoint, IsPartitionedBy}

-- ---- places

-- what is read past the end doesn't matter before it
any_default : (es : List Entry) (i : ℕ) (d d' : Entry) → i < length es → get_or es i d ≡ get_or es i d'
any_default [] i d d' within = absurd (omega (arith, within))
any_default (e ∷ es) zero d d' within = refl
any_default (e ∷ es) (suc i) d d' within = any_default es i d d' (omega (arith, within))

module _ (P : Entry → Type 0) where
  All-at : (es : List Entry) (i : ℕ) (d : Entry) → i < length es → AllByRecursion P es → P (get_or es i d)
  All-at [] i d within all = absurd (omega arith)
  All-at (e ∷ es) zero d within all = all.0
  All-at (e ∷ es) (suc i) d within all = All-at es i d (omega arith) all.1

  All-front : (es : List Entry) (i : ℕ) → i ≤ length es → AllWithin P es 0 i → AllByRecursion P (take i es)
  All-front es zero within all = tt
  All-front [] (suc i) within all = tt
  All-front (e ∷ es) (suc i) within all =
      (all 0 e (omega arith) (omega arith), All-front es i (omega arith) (λ k d least most. all (suc k) d (omega arith) (omega arith)))

  All-back : (es : List Entry) (i : ℕ) → AllWithin P es i (length es) → AllByRecursion P (drop i es)
  All-back es zero all = recursion_from_All P es (λ k d within. all k d (omega arith) within)
  All-back [] (suc i) all = tt
  All-back (e ∷ es) (suc i) all = All-back es i (λ k d least most. all (suc k) d (omega arith) (omega arith))

-- a test that passes before each entry that passes
module _ (p : Entry → Bool) (down : (e f : Entry) → IsBefore e f → p f ≡ true → p e ≡ true) where
  pub parted : (es : List Entry) → AreOrdered es → IsPartitionedBy p es
  parted [] ordered i j d le within passed = absurd (omega arith)
  parted (e ∷ es) ordered zero zero d le within passed = passed
  parted (e ∷ es) ordered zero (suc j) d le within passed = down e (get_or es j d) (All-at (IsBefore e) es j d (omega arith) ordered.0) passed
  parted (e ∷ es) ordered (suc i) zero d le within passed = absurd (omega arith)
  parted (e ∷ es) ordered (suc i) (suc j) d le within passed = parted es ordered.1 i j d (omega arith) (omega arith) passed

pub cut : (p : Entry → Bool) (es : List Entry) (i : ℕ) → i ≤ length es → IsPartitionPoint (λ e. p e ≡ true) (λ e. p e ≡ false) es i → IsCut p es i
cut p es i within point = record {
  within = within;
  before = All-front (λ e. p e ≡ true) es i within point.0;
  behind = All-back (λ e. p e ≡ false) es i point.1;
}

pub below_down : (k : ℕ) (e f : Entry) → IsBefore e f → is_below k f ≡ true → is_below k e ≡ true
below_down k e f before passed = grind (arith, nat_tests, before.key)

-- the entries of a key begin where one of it comes after one of a lesser key
pub start_there : (es : List Entry) (k i : ℕ) (e : Entry) → AreOrdered es → i < length es → e ≡ get_or es i e → e.key ≡ k
    → IsPastLesser k es i → IsCut (is_below k) es i
start_there es k i e ordered within here same past = cut (is_below k) es i (omega (arith, within)) (
  (λ j d least lt. parted (is_below k) (below_down k) es ordered j (i - 1) d (omega (arith, lt)) (omega (arith, lt, within))
      (lt-ltb (get_or es (i - 1) d).key k (past (i - 1) d (omega (arith, lt))))),
  (λ j d ge lt. by_answer j d ge lt (is_below k (get_or es j d)) refl),
)
  where
    by_answer : (j : ℕ) (d : Entry) → i ≤ j → j < length es → (b : Bool) → is_below k (get_or es j d) ≡ b → b ≡ false
    by_answer j d ge lt false is = refl
    by_answer j d ge lt true is =
        let less : (get_or es i d).key < k = ltb-true (get_or es i d).key k (parted (is_below k) (below_down k) es ordered i j d ge lt is) in
        absurd (omega (arith, less, same, ap (λ (x : Entry). x.key) (here ∙ any_default es i e d within)))

pub up_to_down : (k : ℕ) (e f : Entry) → IsBefore e f → is_up_to k f ≡ true → is_up_to k e ≡ true
up_to_down k e f before passed = grind (arith, nat_tests, before.key)

pub before_down : (k n : ℕ) (e f : Entry) → IsBefore e f → is_before k n f ≡ true → is_before k n e ≡ true
before_down k n e f before passed = grind (arith, nat_tests, before.key, before.number)

-- ---- what is read

-- an entry's number, if it stands under the key
abbrev pub number_if : ℕ → Option Entry → Option ℕ
number_if k None = None
number_if k (Some e) = cond (is_under k e) (Some e.number) None

none_above : (k : ℕ) (es : List Entry) → AllByRecursion (λ e. is_up_to k e ≡ false) es → numbers_under k es ≡ []
none_above k [] above = refl
none_above k (e ∷ es) above =
    let other : eqb e.key k ≡ false = grind (arith, nat_tests, above.0) in
    rw other (none_above k es above.1)

-- after the lesser keys
nth_top : (k : ℕ) (es : List Entry) (i : ℕ) → AreOrdered es → AllByRecursion (λ e. is_below k e ≡ false) es
    → slice_get (numbers_under k es) i ≡ number_if k (slice_get es i)
nth_top k [] i ordered above = refl
nth_top k (e ∷ es) i ordered above = by_test (is_under k e) refl i (λ j. nth_top k es j ordered.1 above.1)
  where
    all_above : (fs : List Entry) → is_under k e ≡ false → AllByRecursion (IsBefore e) fs → AllByRecursion (λ f. is_up_to k f ≡ false) fs
    all_above [] other behind = tt
    all_above (f ∷ fs) other behind = (grind (arith, nat_tests, above.0, behind.0.key), all_above fs other behind.1)

    nowhere : (fs : List Entry) (j : ℕ) → AllByRecursion (λ f. is_up_to k f ≡ false) fs → number_if k (slice_get fs j) ≡ None
    nowhere [] j above = refl
    nowhere (f ∷ fs) zero above =
        let other : eqb f.key k ≡ false = grind (arith, nat_tests, above.0) in
        rw other refl
    nowhere (f ∷ fs) (suc j) above = nowhere fs j above.1

    by_test : (b : Bool) → is_under k e ≡ b → (j : ℕ) → ((m : ℕ) → slice_get (numbers_under k es) m ≡ number_if k (slice_get es m))
        → slice_get (numbers_under k (e ∷ es)) j ≡ number_if k (slice_get (e ∷ es) j)
    by_test true here zero rest = rw here refl
    by_test true here (suc j) rest = rw here (rest j)
    by_test false here zero rest = rw (here, none_above k es (all_above es here ordered.0)) refl
    by_test false here (suc j) rest = rw (here, none_above k es (all_above es here ordered.0)) (sym (nowhere es j (all_above es here ordered.0)))

-- at so many places after the lesser keys
pub nth_under : (k : ℕ) (es : List Entry) (start i : ℕ) → AreOrdered es → AllByRecursion (λ e. is_below k e ≡ true) (take start es)
    → AllByRecursion (λ e. is_below k e ≡ false) (drop start es)
    → slice_get (numbers_under k es) i ≡ number_if k (slice_get (drop start es) i)
nth_under k es zero i ordered below above = nth_top k es i ordered above
nth_under k [] (suc start) i ordered below above = refl
nth_under k (e ∷ es) (suc start) i ordered below above =
    let other : eqb e.key k ≡ false = grind (arith, nat_tests, below.0) in
    rw other (nth_under k es start i ordered.1 below.1 above)

pub nth_read : (k : ℕ) (es : List Entry) (start i : ℕ) (read : Option Entry) → AreOrdered es → IsCut (is_below k) es start
    → read ≡ slice_get (take (length es - start) (drop start es)) i
    → number_if k read ≡ slice_get (numbers_under k es) i
nth_read k es start i read ordered at is =
    ap (number_if k) (is ∙ ap (λ fs. slice_get fs i) (take_rest es start)) ∙ sym (nth_under k es start i ordered at.before at.behind)

pub number_here : (k : ℕ) (e : Entry) → e.key ≡ k → Some e.number ≡ number_if k (Some e)
number_here k e same = rw (eq-eqb e.key k same) refl

pub number_apart : (k : ℕ) (e : Entry) → e.key ≢ k → None ≡ number_if k (Some e)
number_apart k e differs = rw (ne_eqb e.key k differs) refl

-- ---- one entry more, and one less

module _ (k n : ℕ) where
  abbrev pub entry : Entry
  entry = record { key = k; number = n }

  here-added : (es : List Entry) (i : ℕ) → AllByRecursion (λ e. is_up_to k e ≡ false) (drop i es)
      → numbers_under k (insert es i entry) ≡ numbers_under k es ++ n ∷ []
  here-added es zero above = rw (eq-eqb k k refl, none_above k es above) refl
  here-added [] (suc i) above = rw (eq-eqb k k refl) refl
  here-added (e ∷ es) (suc i) above = by_test (is_under k e) (here-added es i above)
    where
      by_test : (b : Bool) → numbers_under k (insert es i entry) ≡ numbers_under k es ++ n ∷ []
          → map (λ (f : Entry). f.number) (cond b (e ∷ filter (is_under k) (insert es i entry)) (filter (is_under k) (insert es i entry)))
          ≡ map (λ (f : Entry). f.number) (cond b (e ∷ filter (is_under k) es) (filter (is_under k) es)) ++ n ∷ []
      by_test true rest = ap (λ ns. e.number ∷ ns) rest
      by_test false rest = rest

  others-added : (j : ℕ) → j ≢ k → (es : List Entry) (i : ℕ) → numbers_under j (insert es i entry) ≡ numbers_under j es
  others-added j differs es zero = rw (ne_eqb k j (λ same. differs (sym same))) refl
  others-added j differs [] (suc i) = rw (ne_eqb k j (λ same. differs (sym same))) refl
  others-added j differs (e ∷ es) (suc i) = by_test (is_under j e) (others-added j differs es i)
    where
      by_test : (b : Bool) → numbers_under j (insert es i entry) ≡ numbers_under j es
          → map (λ (f : Entry). f.number) (cond b (e ∷ filter (is_under j) (insert es i entry)) (filter (is_under j) (insert es i entry)))
          ≡ map (λ (f : Entry). f.number) (cond b (e ∷ filter (is_under j) es) (filter (is_under j) es))
      by_test true rest = ap (λ ns. e.number ∷ ns) rest
      by_test false rest = rest

  pub Puts-added : (es : List Entry) (i : ℕ) → AllByRecursion (λ e. is_up_to k e ≡ false) (drop i es)
      → Puts es (insert es i entry) k (numbers_under k es ++ n ∷ [])
  Puts-added es i above = record { here = here-added es i above; others = λ j differs. others-added j differs es i }

  All-inserted : (P : Entry → Type 0) (es : List Entry) (i : ℕ) → AllByRecursion P es → P entry → AllByRecursion P (insert es i entry)
  All-inserted P es zero all here = (here, all)
  All-inserted P [] (suc i) all here = (here, tt)
  All-inserted P (e ∷ es) (suc i) all here = (all.0, All-inserted P es i all.1 here)

  before_all : (es : List Entry) → AllByRecursion (λ e. is_up_to k e ≡ false) es → AllByRecursion (IsBefore entry) es
  before_all [] above = tt
  before_all (e ∷ es) above =
      let greater : k < e.key = grind (arith, nat_tests, above.0) in
      (record { key = omega arith; number = λ same. absurd (omega (arith, same, greater)) }, before_all es above.1)

  pub AreOrdered-added : (es : List Entry) (i : ℕ) → AreOrdered es → all_below n (numbers_under k es) ≡ true
      → AllByRecursion (λ e. is_up_to k e ≡ true) (take i es) → AllByRecursion (λ e. is_up_to k e ≡ false) (drop i es) → AreOrdered (insert es i entry)
  AreOrdered-added es zero ordered newest below above = (before_all es above, ordered)
  AreOrdered-added [] (suc i) ordered newest below above = (tt, tt)
  AreOrdered-added (e ∷ es) (suc i) ordered newest below above = (
    All-inserted (IsBefore e) es i ordered.0 (by_test (is_under k e) refl newest),
    AreOrdered-added es i ordered.1 (rest (is_under k e) newest) below.1 above,
  )
    where
      by_test : (b : Bool) → is_under k e ≡ b
          → all_below n (map (λ (f : Entry). f.number) (cond b (e ∷ filter (is_under k) es) (filter (is_under k) es))) ≡ true → IsBefore e entry
      by_test true here all =
          let lesser = ltb-true e.number n (and_parts (ltb e.number n) (all_below n (numbers_under k es)) all).0 in
          record { key = omega (arith, eqb-true e.key k here); number = λ same. lesser }
      by_test false here all = record { key = grind (arith, nat_tests, below.0); number = λ same. absurd (grind (arith, nat_tests)) }

      rest : (b : Bool) → all_below n (map (λ (f : Entry). f.number) (cond b (e ∷ filter (is_under k) es) (filter (is_under k) es))) ≡ true
          → all_below n (numbers_under k es) ≡ true
      rest true all = (and_parts (ltb e.number n) (all_below n (numbers_under k es)) all).1
      rest false all = all

  -- the number stands under the key no more

  absent : (e : Entry) (es : List Entry) → is_before k n e ≡ false → AllByRecursion (IsBefore e) es → member n (numbers_under k es) ≡ false
  absent e [] above behind = refl
  absent e (f ∷ es) above behind = by_test (is_under k f) refl (absent e es above behind.1)
    where
      by_test : (b : Bool) → is_under k f ≡ b → member n (numbers_under k es) ≡ false
          → member n (map (λ (g : Entry). g.number) (cond b (f ∷ filter (is_under k) es) (filter (is_under k) es))) ≡ false
      by_test true here rest =
          let other : eqb f.number n ≡ false = grind (arith, nat_tests, behind.0.key, behind.0.number) in
          rw other rest
      by_test false here rest = rest

  without_absent : (ns : List ℕ) → member n ns ≡ false → without n ns ≡ ns
  without_absent [] none = refl
  without_absent (m ∷ ns) none = by_test (eqb m n) none (without_absent ns)
    where
      by_test : (b : Bool) → (b || member n ns) ≡ false → (member n ns ≡ false → without n ns ≡ ns) → cond (not b) (m ∷ without n ns) (without n ns) ≡ m ∷ ns
      by_test true none rest = absurd (cc)
      by_test false none rest = ap (λ ms. m ∷ ms) (rest none)

  -- the entry stands there
  pub record IsEntryAt (es : List Entry) (i : ℕ) : Type 0 where
    pub within : i < length es
    pub key : (d : Entry) → (get_or es i d).key ≡ k
    pub number : (d : Entry) → (get_or es i d).number ≡ n

  pub stands : (es : List Entry) (i : ℕ) → AreOrdered es → AllByRecursion (λ e. is_before k n e ≡ true) (take i es)
      → AllByRecursion (λ e. is_before k n e ≡ false) (drop i es)
      → member n (numbers_under k es) ≡ true → IsEntryAt es i
  stands [] i ordered before behind listed = absurd (cc)
  stands (e ∷ es) zero ordered before behind listed = by_key (is_under k e) refl listed
    where
      none : member n (numbers_under k es) ≡ false
      none = absent e es behind.0 ordered.0

      by_key : (b : Bool) → is_under k e ≡ b
          → member n (map (λ (f : Entry). f.number) (cond b (e ∷ filter (is_under k) es) (filter (is_under k) es))) ≡ true → IsEntryAt (e ∷ es) zero
      by_key false other listed =
          let never : true ≡ false = sym listed ∙ none in
          absurd (cc)
      by_key true here listed = by_number (eqb e.number n) refl listed
        where
          by_number : (b : Bool) → eqb e.number n ≡ b → (b || member n (numbers_under k es)) ≡ true → IsEntryAt (e ∷ es) zero
          by_number true own listed = record { within = omega arith; key = λ d. eqb-true e.key k here; number = λ d. eqb-true e.number n own }
          by_number false other listed =
              let never : true ≡ false = sym listed ∙ none in
              absurd (cc)
  stands (e ∷ es) (suc i) ordered before behind listed =
      let later = stands es i ordered.1 before.1 behind (rest (is_under k e) refl listed) in
      record { within = omega (arith, later.within); key = later.key; number = later.number }
    where
      rest : (b : Bool) → is_under k e ≡ b
          → member n (map (λ (f : Entry). f.number) (cond b (e ∷ filter (is_under k) es) (filter (is_under k) es))) ≡ true
          → member n (numbers_under k es) ≡ true
      rest true here listed =
          let other : eqb e.number n ≡ false = grind (arith, nat_tests, before.0) in
          rw other at listed
      rest false here listed = listed

  here-taken : (es : List Entry) (i : ℕ) → AreOrdered es → AllByRecursion (λ e. is_before k n e ≡ true) (take i es)
      → AllByRecursion (λ e. is_before k n e ≡ false) (drop i es)
      → IsEntryAt es i → numbers_under k (remove es i) ≡ without n (numbers_under k es)
  here-taken [] i ordered before behind at = absurd (omega (arith, at.within))
  here-taken (e ∷ es) zero ordered before behind at =
      rw (eq-eqb e.key k (at.key e), eq-eqb e.number n (at.number e)) (sym (without_absent (numbers_under k es) (absent e es behind.0 ordered.0)))
  here-taken (e ∷ es) (suc i) ordered before behind at =
      by_test (is_under k e) refl (here-taken es i ordered.1 before.1 behind (record { within = omega (arith, at.within); key = at.key; number = at.number }))
    where
      by_test : (b : Bool) → is_under k e ≡ b → numbers_under k (remove es i) ≡ without n (numbers_under k es)
          → map (λ (f : Entry). f.number) (cond b (e ∷ filter (is_under k) (remove es i)) (filter (is_under k) (remove es i)))
          ≡ without n (map (λ (f : Entry). f.number) (cond b (e ∷ filter (is_under k) es) (filter (is_under k) es)))
      by_test true here rest =
          let other : eqb e.number n ≡ false = grind (arith, nat_tests, before.0) in
          rw other (ap (λ ns. e.number ∷ ns) rest)
      by_test false here rest = rest

  others-taken : (j : ℕ) → j ≢ k → (es : List Entry) (i : ℕ) → IsEntryAt es i → numbers_under j (remove es i) ≡ numbers_under j es
  others-taken j differs [] i at = absurd (omega (arith, at.within))
  others-taken j differs (e ∷ es) zero at = rw (ne_eqb e.key j (λ same. differs (sym same ∙ at.key e))) refl
  others-taken j differs (e ∷ es) (suc i) at =
      by_test (is_under j e) (others-taken j differs es i (record { within = omega (arith, at.within); key = at.key; number = at.number }))
    where
      by_test : (b : Bool) → numbers_under j (remove es i) ≡ numbers_under j es
          → map (λ (f : Entry). f.number) (cond b (e ∷ filter (is_under j) (remove es i)) (filter (is_under j) (remove es i)))
          ≡ map (λ (f : Entry). f.number) (cond b (e ∷ filter (is_under j) es) (filter (is_under j) es))
      by_test true rest = ap (λ ns. e.number ∷ ns) rest
      by_test false rest = rest

  pub Puts-taken : (es : List Entry) (i : ℕ) → AreOrdered es → IsCut (is_before k n) es i → member n (numbers_under k es) ≡ true
      → Puts es (remove es i) k (without n (numbers_under k es))
  Puts-taken es i ordered at listed =
      let stood = stands es i ordered at.before at.behind listed in
      record { here = here-taken es i ordered at.before at.behind stood; others = λ j differs. others-taken j differs es i stood }

All-removed : (P : Entry → Type 0) (es : List Entry) (i : ℕ) → AllByRecursion P es → AllByRecursion P (remove es i)
All-removed P [] zero all = tt
All-removed P [] (suc i) all = tt
All-removed P (e ∷ es) zero all = all.1
All-removed P (e ∷ es) (suc i) all = (all.0, All-removed P es i all.1)

pub AreOrdered-taken : (es : List Entry) (i : ℕ) → AreOrdered es → AreOrdered (remove es i)
AreOrdered-taken [] zero ordered = tt
AreOrdered-taken [] (suc i) ordered = tt
AreOrdered-taken (e ∷ es) zero ordered = ordered.1
AreOrdered-taken (e ∷ es) (suc i) ordered = (All-removed (IsBefore e) es i ordered.0, AreOrdered-taken es i ordered.1)
