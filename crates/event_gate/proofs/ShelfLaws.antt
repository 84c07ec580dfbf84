-- What a take and a line more make of the lines left and of their counts.
use Rattle.std.proofs.Common.{◌≡◌, ◌≢◌, ℕ, zero, suc, ◌+◌, ◌-◌, ◌<◌, ◌≤◌, Bool, eqb, List, true, false, is_some, [], ◌∷◌, ◌++◌, length}
use Rattle.std.proofs.Common.{map, set, replicate, drop, slice_get, slice_index, get_or, None, Some, sym, refl, ap, ◌∙◌, ⊎_elim}
use Rattle.std.proofs.Common.{get_or-set_same, get_or-set_other, length-append, take, subst, eq-eqb, ne_eqb, arith}
use Rattle.std.specs.List.{count_by, range_with_len}
use Rattle.std.proofs.lemmas.List.{append-nil, get_or_default, take_more}
use Rattle.std.proofs.lemmas.List.FromFn.{length-map-range_with_len}
use Rattle.std.proofs.lemmas.List.Elements.{filter-append}
use Rattle.std.proofs.lemmas.List.Sums.{count_by-le-length, sum_by-set, sum_by-le-sum_by}
use Rattle.lwp_types.specs.declared.call.Line.{Line}
use Rattle.lwp_types.specs.CountLaws.{one, count-cons, count-push}
use Rattle.lists.specs.EventMarks.{is_marked}
use Rattle.std.specs.Slice.Scan.{HoldsNowhere, IsFirstPlace}
use Rattle.std.specs.Prelude.{Err, IfNone, IfSome, Ok, OnErr, Option, Result}
use Rattle.event_gate.specs.Shelves.{Shelf, Shelves, bare, bare_rack, first_left, has_left, after_next, with_one_more, shelf_of, after_take_from}
use Rattle.event_gate.specs.Shelves.{after_add_to, left_of_client, left_in_all, event_of, lines_for, full, full_shelves}
use Rattle.event_gate.proofs.Lines.{same_or, cond_same, cond_other}

abbrev is_of : ℕ → Line → Bool
is_of c l = eqb l.client c

abbrev count_of : ℕ → Shelf Line → ℕ
count_of c s = count_by (is_of c) s.left

first_rest : (ls : List Line) (x : Line) → slice_get ls 0 ≡ Some x → ls ≡ x ∷ drop 1 ls
first_rest [] x e = absurd (cc e)
first_rest (y ∷ ys) x e = cc e

-- how many of c's lines are left of a shelf from which x is taken
count_first : (c : ℕ) (s : Shelf Line) (x : Line) → slice_get s.left 0 ≡ Some x → count_of c s ≡ one (eqb x.client c) + count_of c (after_next s)
count_first c s x e = ap (count_by (is_of c)) (first_rest s.left x e) ∙ count-cons (is_of c) x (drop 1 s.left)

-- how many of c's lines are left in all where x is taken
one_less : (c : ℕ) (shelves : Shelves) (e : ℕ) (x : Line) → e < length shelves → slice_get (shelf_of shelves e).left 0 ≡ Some x
    → left_of_client c (after_take_from shelves e) + one (eqb x.client c) ≡ left_of_client c shelves
one_less c shelves e x there first =
    let s = sum_by-set (count_of c) shelves e (after_next (shelf_of shelves e)) bare there in
    let n = count_first c (shelf_of shelves e) x first in
    omega (arith, s, n)

one_more : (c : ℕ) (shelves : Shelves) (e : ℕ) (x : Line) → e < length shelves
    → left_of_client c (after_add_to shelves e x) ≡ left_of_client c shelves + one (eqb x.client c)
one_more c shelves e x there =
    let s = sum_by-set (count_of c) shelves e (with_one_more (shelf_of shelves e) x) bare there in
    let n = count-push (is_of c) (shelf_of shelves e).left x in
    omega (arith, s, n)

pub one_left : (shelves : Shelves) (e : ℕ) (x : Line) → e < length shelves → slice_get (shelf_of shelves e).left 0 ≡ Some x
    → 1 ≤ left_of_client x.client shelves
one_left shelves e x there first =
    let s = one_less x.client shelves e x there first in
    let n : one (eqb x.client x.client) ≡ 1 = ap one (eq-eqb x.client x.client refl) in
    omega (arith, s, n)

abbrev pub Counts : List ℕ → Shelves → Type 0
Counts left shelves = (c : ℕ) → slice_index left c ≡ left_of_client c shelves

-- the counts where one client's is another
recounted : (left : List ℕ) (was now : Shelves) (i n : ℕ) → Counts left was → i < length left → n ≡ left_of_client i now
    → ((c : ℕ) → i ≢ c → left_of_client c now ≡ left_of_client c was) → Counts (set left i n) now
recounted left was now i n h there mine others c = ⊎_elim
    (λ (same : i ≡ c). ap (λ k. get_or (set left i n) k 0) (sym same) ∙ get_or-set_same left i n 0 there ∙ mine ∙ ap (λ k. left_of_client k now) same)
    (λ (other : i ≢ c). get_or-set_other left i c n 0 (λ s. other (sym s)) ∙ h c ∙ sym (others c other))
    (same_or i c)

pub counts_taken : (left : List ℕ) (shelves : Shelves) (e : ℕ) (x : Line) → Counts left shelves → e < length shelves
    → x.client < length left → slice_get (shelf_of shelves e).left 0 ≡ Some x
    → Counts (set left x.client (slice_index left x.client - 1)) (after_take_from shelves e)
counts_taken left shelves e x h there known first =
    recounted left shelves (after_take_from shelves e) x.client (slice_index left x.client - 1) h known
    (let s = one_less x.client shelves e x there first in
    let n : one (eqb x.client x.client) ≡ 1 = ap one (eq-eqb x.client x.client refl) in let m = h x.client in omega (arith, s, n, m))
    (λ c other. let s = one_less c shelves e x there first in let n : one (eqb x.client c) ≡ 0 = ap one (ne_eqb x.client c other) in omega (arith, s, n))

pub counts_added : (left : List ℕ) (shelves : Shelves) (e : ℕ) (x : Line) → Counts left shelves → e < length shelves
    → x.client < length left → Counts (set left x.client (slice_index left x.client + 1)) (after_add_to shelves e x)
counts_added left shelves e x h there known =
    recounted left shelves (after_add_to shelves e x) x.client (slice_index left x.client + 1) h known
    (let s = one_more x.client shelves e x there in let n : one (eqb x.client x.client) ≡ 1 = ap one (eq-eqb x.client x.client refl) in
    let m = h x.client in omega (arith, s, n, m))
    (λ c other. let s = one_more c shelves e x there in let n : one (eqb x.client c) ≡ 0 = ap one (ne_eqb x.client c other) in omega (arith, s, n))

pub within_all : (c : ℕ) (shelves : Shelves) → left_of_client c shelves ≤ left_in_all shelves
within_all c shelves = sum_by-le-sum_by (count_of c) (λ s. length s.left) shelves (λ s. count_by-le-length (is_of c) s.left)

lines_more : (events : List ℕ) (ps : List Line) (x : Line) (e : ℕ) → event_of events x.client ≡ e
    → lines_for events (ps ++ x ∷ []) e ≡ lines_for events ps e ++ x ∷ []
lines_more events ps x e same = filter-append (λ (l : Line). eqb (event_of events l.client) e) ps (x ∷ [])
    ∙ ap (λ l. lines_for events ps e ++ l) (cond_same (event_of events x.client) e (x ∷ []) [] same)

lines_same : (events : List ℕ) (ps : List Line) (x : Line) (e : ℕ) → event_of events x.client ≢ e → lines_for events (ps ++ x ∷ []) e ≡ lines_for events ps e
lines_same events ps x e other = filter-append (λ (l : Line). eqb (event_of events l.client) e) ps (x ∷ [])
    ∙ ap (λ l. lines_for events ps e ++ l) (cond_other (event_of events x.client) e (x ∷ []) [] other) ∙ append-nil (lines_for events ps e)

abbrev of_range : List ℕ → List Line → ℕ → ℕ → Shelves
of_range events ps a n = map (full events ps) (range_with_len a n)

abbrev full_of : List Line → Shelf Line
full_of ls = record { taken = []; left = ls }

range_same : (events : List ℕ) (ps : List Line) (x : Line) (a n : ℕ) → event_of events x.client < a
    → of_range events ps a n ≡ of_range events (ps ++ x ∷ []) a n
range_same events ps x a zero low = refl
range_same events ps x a (suc n) low =
    let head : full events ps a ≡ full events (ps ++ x ∷ []) a = ap full_of (sym (lines_same events ps x a (λ e. absurd (omega arith)))) in
    ap (λ s. s ∷ of_range events ps (a + 1) n) head ∙ ap (λ l. full events (ps ++ x ∷ []) a ∷ l) (range_same events ps x (a + 1) n (omega arith))

range_more : (events : List ℕ) (ps : List Line) (x : Line) (a n i : ℕ) → i < n → event_of events x.client ≡ a + i
    → after_add_to (of_range events ps a n) i x ≡ of_range events (ps ++ x ∷ []) a n
range_more events ps x a zero i low e = absurd (omega arith)
range_more events ps x a (suc n) zero low e =
    let head : with_one_more (full events ps a) x ≡ full events (ps ++ x ∷ []) a = ap full_of (sym (lines_more events ps x a (omega (arith, e)))) in
    ap (λ s. s ∷ of_range events ps (a + 1) n) head ∙ ap (λ l. full events (ps ++ x ∷ []) a ∷ l) (range_same events ps x (a + 1) n (omega (arith, e)))
range_more events ps x a (suc n) (suc i) low e =
    let head : full events ps a ≡ full events (ps ++ x ∷ []) a = ap full_of (sym (lines_same events ps x a (λ f. absurd (omega (arith, e, f))))) in
    ap (λ s. s ∷ after_add_to (of_range events ps (a + 1) n) i x) head
    ∙ ap (λ l. full events (ps ++ x ∷ []) a ∷ l) (range_more events ps x (a + 1) n i (omega arith) (omega (arith, e)))

pub stocked_more : (events : List ℕ) (ps : List Line) (x : Line) → event_of events x.client < 256
    → after_add_to (full_shelves events ps) (event_of events x.client) x ≡ full_shelves events (ps ++ x ∷ [])
stocked_more events ps x low = range_more events ps x 0 256 (event_of events x.client) low (omega arith)

range_none : (events : List ℕ) (a n : ℕ) → of_range events [] a n ≡ replicate n bare
range_none events a zero = refl
range_none events a (suc n) = ap (λ l. bare ∷ l) (range_none events (a + 1) n)

pub stocked_none : (events : List ℕ) → full_shelves events [] ≡ replicate 256 bare
stocked_none events = range_none events 0 256

pub all_more : (shelves : Shelves) (e : ℕ) (x : Line) → e < length shelves → left_in_all (after_add_to shelves e x) ≡ left_in_all shelves + 1
all_more shelves e x there =
    let s = sum_by-set (λ (s : Shelf Line). length s.left) shelves e (with_one_more (shelf_of shelves e) x) bare there in
    let n = length-append (shelf_of shelves e).left (x ∷ []) in
    omega (arith, s, n)

pub no_counts : Counts (replicate 256 0) (replicate 256 bare)
no_counts c = all_zero 256 c ∙ sym (none_left 256 c)
  where
    all_zero : (n i : ℕ) → slice_index (replicate n 0) i ≡ 0
    all_zero zero i = refl
    all_zero (suc n) zero = refl
    all_zero (suc n) (suc i) = all_zero n i

    none_left : (n c : ℕ) → left_of_client c (replicate n bare) ≡ 0
    none_left zero c = refl
    none_left (suc n) c = none_left n c

pub take_of : (left : List ℕ) (shelves : Shelves) (e i n : ℕ) (x : Line) → Counts left shelves → e < length shelves → i < length left
    → first_left shelves e ≡ Some x → i ≡ x.client → n ≡ get_or left i n
    → (1 ≤ n) × Counts (set left i (n - 1)) (after_take_from shelves e)
take_of left shelves e i n x h there known first i_is n_is =
    let count : n ≡ slice_index left x.client = n_is ∙ get_or_default left i n 0 known ∙ ap (λ k. get_or left k 0) i_is in (
      let a = one_left shelves e x there first in let b = h x.client in omega (arith, a, b, count),
      subst (λ (y : ℕ × ℕ). Counts (set left y.0 (y.1 - 1)) (after_take_from shelves e)) (λ k. (sym i_is k, sym count k)) (counts_taken left
          shelves e x h there (let b = i_is in omega (arith, b)) first),
    )

pub add_of : (left : List ℕ) (shelves : Shelves) (e i n : ℕ) (x : Line) → Counts left shelves → e < length shelves → i < length left
    → i ≡ x.client → n ≡ get_or left i n
    → (n ≤ left_in_all shelves) × Counts (set left i (n + 1)) (after_add_to shelves e x)
add_of left shelves e i n x h there known i_is n_is =
    let count : n ≡ slice_index left x.client = n_is ∙ get_or_default left i n 0 known ∙ ap (λ k. get_or left k 0) i_is in (
      let a = within_all x.client shelves in let b = h x.client in omega (arith, a, b, count),
      subst (λ (y : ℕ × ℕ). Counts (set left y.0 (y.1 + 1)) (after_add_to shelves e x)) (λ k. (sym i_is k, sym count k)) (counts_added left
          shelves e x h there (let b = i_is in omega (arith, b))),
    )

-- where no item is left, none is taken
pub taken_none : {X : Type 0} (shelves : List (Shelf X)) (e : ℕ) → first_left shelves e ≡ None → after_take_from shelves e ≡ shelves
taken_none [] e h = refl
taken_none (s ∷ shelves) zero h = ap (λ t. t ∷ shelves) (moved_none s h)
  where
    moved_none : {X : Type 0} (s : Shelf X) → slice_get s.left 0 ≡ None → after_next s ≡ s
    moved_none {X} s h = by_left s.left h
      where
        by_left : (left : List X) → slice_get left 0 ≡ None → after_next (record { taken = s.taken; left = left }) ≡ record { taken = s.taken; left = left }
        by_left [] h = ap (λ (t : List X). record { taken = t; left = [] }) (append-nil s.taken)
        by_left (y ∷ ys) h = absurd (cc h)
taken_none (s ∷ shelves) (suc e) h = ap (λ t. s ∷ t) (taken_none shelves e h)

pub add_next : (events : List ℕ) (posts : List Line) (i e : ℕ) (x : Line) (gate w : Shelves) → i < length posts → x ≡ get_or posts i x
    → gate ≡ full_shelves events (take i posts) → left_in_all gate ≡ i → e ≡ slice_index events x.client → e < 256 → w ≡ after_add_to gate e x
    → (w ≡ full_shelves events (take (i + 1) posts)) × (left_in_all w ≡ i + 1)
add_next events posts i e x gate w lt x_is gate_is all e_is low w_is =
    let long : length gate ≡ 256 = ap length gate_is ∙ length-map-range_with_len (full events (take i posts)) 0 256 in
    let next : take i posts ++ x ∷ [] ≡ take (i + 1) posts = ap (λ y. take i posts ++ y ∷ []) x_is ∙ sym (take_more posts i x lt) in (
      w_is ∙ (λ k. after_add_to (gate_is k) (e_is k) x) ∙ stocked_more events (take i posts) x (omega (arith, low, e_is)) ∙ ap (full_shelves events) next,
      ap left_in_all w_is ∙ all_more gate e x (omega (arith, low, long)) ∙ ap (λ k. k + 1) all,
    )

pub begins : (events : List ℕ) (gate : Shelves) → gate ≡ replicate 256 bare → (gate ≡ full_shelves events []) × (left_in_all gate ≡ 0)
begins events gate is = (is ∙ sym (stocked_none events), ap left_in_all is ∙ none_in 256)
  where
    none_in : (n : ℕ) → left_in_all (replicate n bare) ≡ 0
    none_in zero = refl
    none_in (suc n) = none_in n

-- the first n items are those taken, and the others those left
abbrev pub parted : {X : Type 0} → ℕ → List X → Shelf X
parted n xs = record { taken = take n xs; left = drop n xs }

-- parted one place further on, the first item left is taken
pub moved_on : {X : Type 0} (n : ℕ) (xs : List X) → parted (suc n) xs ≡ after_next (parted n xs)
moved_on zero [] = refl
moved_on (suc n) [] = refl
moved_on zero (x ∷ xs) = refl
moved_on {X} (suc n) (x ∷ xs) = ap (λ (s : Shelf X). record { taken = x ∷ s.taken; left = s.left }) (moved_on n xs)

-- one item more at the end is one more that is left
pub put_last : {X : Type 0} (n : ℕ) (xs : List X) (x : X) → n ≤ length xs → parted n (xs ++ x ∷ []) ≡ with_one_more (parted n xs) x
put_last zero xs x le = refl
put_last (suc n) [] x le = absurd (omega arith)
put_last {X} (suc n) (y ∷ ys) x le = ap (λ (s : Shelf X). record { taken = y ∷ s.taken; left = s.left }) (put_last n ys x (omega arith))

-- ---- the events of which an item is left

abbrev Marks : {X : Type 0} → ℕ → List (Shelf X) → Type 0
Marks word shelves = (e : ℕ) → e < 64 → is_marked word e ≡ has_left shelves e

-- where another shelf stands at one event, the marks are others there alone
pub marks_put : {X : Type 0} (was now : ℕ) (shelves : List (Shelf X)) (e : ℕ) (s : Shelf X) → Marks was shelves → e < length shelves
    → (e < 64 → is_marked now e ≡ is_some (slice_get s.left 0)) → ((i : ℕ) → i ≢ e → is_marked now i ≡ is_marked was i) → Marks now (set shelves e s)
marks_put {X} was now shelves e s h there here others i low = ⊎_elim
    (λ (same : e ≡ i). ap (is_marked now) (sym same) ∙ here (subst (λ k. k < 64) (sym same) low)
    ∙ sym
    (ap (λ (t : Shelf X). is_some (slice_get t.left 0)) (ap (λ k. get_or (set shelves e s) k bare) (sym same) ∙ get_or-set_same shelves e s bare there)))
    (λ (other : e ≢ i). others i (λ is. other (sym is)) ∙ h i low
    ∙ sym (ap (λ (t : Shelf X). is_some (slice_get t.left 0)) (get_or-set_other shelves e i s bare (λ is. other (sym is)))))
    (same_or e i)

-- the shelf that was found there
pub found_shelf : {X : Type 0} (shelves : List (Shelf X)) (e : ℕ) (s : Shelf X) → e < length shelves → s ≡ get_or shelves e s → s ≡ shelf_of shelves e
found_shelf [] e s there is = absurd (omega arith)
found_shelf (x ∷ xs) zero s there is = is
found_shelf (x ∷ xs) (suc e) s there is = found_shelf xs e s (omega arith) is

-- where there was an error, this holds
pub on_err : {T E P : Type 0} (r : Result T E) → P → OnErr r P
on_err (Ok x) p = tt
on_err (Err e) p = p

-- the same shelf is put back
pub set_same : {X : Type 0} (shelves : List (Shelf X)) (e : ℕ) → set shelves e (shelf_of shelves e) ≡ shelves
set_same [] e = refl
set_same (x ∷ xs) zero = refl
set_same (x ∷ xs) (suc e) = ap (λ l. x ∷ l) (set_same xs e)

-- a shelf with one item more has one left
pub one_more_left : {X : Type 0} (s : Shelf X) (x : X) → is_some (slice_get (with_one_more s x).left 0) ≡ true
one_more_left {X} s x = by_left s.left
  where
    by_left : (xs : List X) → is_some (slice_get (xs ++ x ∷ []) 0) ≡ true
    by_left [] = refl
    by_left (y ∷ ys) = refl

pub bare_marks : (X : Type 0) (word : ℕ) → ((e : ℕ) → is_marked word e ≡ false) → Marks {X = X} word bare_rack
bare_marks X word none e low = none e ∙ sym (bare_at 256 e)
  where
    bare_at : (n e : ℕ) → has_left {X = X} (replicate n bare) e ≡ false
    bare_at zero e = refl
    bare_at (suc n) zero = refl
    bare_at (suc n) (suc e) = bare_at n e

-- what holds of the marks holds of the shelves
pub none_of : {X : Type 0} (word : ℕ) (shelves : List (Shelf X)) (from : ℕ) (o : Option ℕ) → Marks word shelves
    → IfNone o (HoldsNowhere (is_marked word) from 32) → IfNone o (HoldsNowhere (has_left shelves) from 32)
none_of word shelves from None h none = λ k low high. sym (h k (omega (arith, high))) ∙ none k low high
none_of word shelves from (Some e) h none = tt

pub first_of : {X : Type 0} (word : ℕ) (shelves : List (Shelf X)) (from : ℕ) (o : Option ℕ) → Marks word shelves → IfSome o (λ e. e < 32)
    → IfSome o (λ e. IsFirstPlace (is_marked word) from 32 e) → IfSome o (λ e. IsFirstPlace (has_left shelves) from 32 e)
first_of word shelves from None h within is = tt
first_of word shelves from (Some e) h within is = record {
  low = is.low;
  high = is.high;
  before = λ k low under. sym (h k (omega (arith, under, within))) ∙ is.before k low under;
  hit = λ below. sym (h e (omega (arith, within))) ∙ is.hit below;
}
