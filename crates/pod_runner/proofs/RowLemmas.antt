-- The row of a thread, found at its place.
use Rattle.std.proofs.Common.{◌≡◌, ℕ, ◌+◌, ◌<◌, ◌≤◌, List, ◌∷◌, ◌++◌, length, get_or, set, take, drop, refl, sym}
use Rattle.std.proofs.Common.{ap, ◌∙◌, append-nil, Some, Bool, true, false, cond, suc, zero, add-one, []}
use Rattle.std.specs.Prelude.{slice_get, slice_set, ◌==◌}
use Rattle.pod_runner.specs.Polls.{place_of}
use Rattle.std.proofs.lemmas.Option.{slice_get_past}
use Rattle.std.proofs.lemmas.Bool.{eq-eqb}
use Rattle.std.proofs.lemmas.List.{take-append-drop, take-set, drop-set, drop_more, get_or_default}
use Rattle.pod_runner.specs.Session.{row_of, rows_of_new, with_row}
use Rattle.pod_runner.specs.declared.session.Row.{Row}

-- a list with one place written
pub set-at : {X : Type 0} (xs : List X) (i : ℕ) (y : X) → i < length xs → set xs i y ≡ take i xs ++ y ∷ drop (i + 1) xs
set-at xs i y within = sym (take-append-drop i (set xs i y)) ∙ rw (take-set xs i y, drop-set xs i y within) refl

pub with_row-head : {B : Type 0} (t : ℕ) (change : Row B → Row B) (row : Row B) (rows : List (Row B)) → row.tid ≡ t
    → with_row t change (row ∷ rows) ≡ change row ∷ rows
with_row-head t change row rows h = rw (eq-eqb row.tid t h) refl

-- the first row of a thread is written at its place
pub with_row-at : {B : Type 0} (t : ℕ) (change : Row B → Row B) (rows : List (Row B)) (i : ℕ) (d : Row B) → i < length rows → (get_or rows i d).tid ≡ t
    → with_row t change rows ≡ take i rows ++ with_row t change (drop i rows) → set rows i (change (get_or rows i d)) ≡ with_row t change rows
with_row-at t change rows i d within h so_far =
    set-at rows i (change (get_or rows i d)) within
    ∙ ap (λ rest. take i rows ++ rest)
    (sym (with_row-head t change (get_or rows i d) (drop (i + 1) rows) h) ∙ ap (with_row t change) (sym (drop_more rows i d within)))
    ∙ sym so_far

-- two readings of one place
pub same_at : {X : Type 0} (xs : List X) (i : ℕ) (x y : X) → i < length xs → x ≡ get_or xs i x → y ≡ get_or xs i y → x ≡ y
same_at xs i x y within here there = here ∙ get_or_default xs i x y within ∙ sym there

-- a row that was read, and is written
pub with_row-written : {B : Type 0} (t : ℕ) (change : Row B → Row B) (rows : List (Row B)) (i : ℕ) (seen row : Row B) → i < length rows
    → seen ≡ get_or rows i seen → row ≡ get_or rows i row → seen.tid ≡ t
    → with_row t change rows ≡ take i rows ++ with_row t change (drop i rows) → set rows i (change row) ≡ with_row t change rows
with_row-written t change rows i seen row within here there h so_far =
    let one : seen ≡ row = same_at rows i seen row within here there in
    let is : get_or rows i row ≡ row = sym there in
    let named : (get_or rows i row).tid ≡ t = ap (λ (r : Row _). r.tid) is ∙ ap (λ (r : Row _). r.tid) (sym one) ∙ h in
    ap (λ r. set rows i (change r)) there ∙ with_row-at t change rows i row within named so_far

-- nobody's row is opened where there is no such procedure
pub row_opened_past : {B : Type 0} (rows : List (Row B)) (bodies : List B) (t number : ℕ) → length bodies ≤ number
    → rows ≡ rows ++ rows_of_new t number (slice_get bodies number)
row_opened_past rows bodies t number past = rw slice_get_past (sym (append-nil rows))

-- a thread's row is the one at its place
pub row_of-place : {B : Type 0} (t : ℕ) (rows : List (Row B)) → row_of t rows ≡ slice_get rows (place_of t rows)
row_of-place t [] = refl
row_of-place t (row ∷ rows) = by_head (row.tid == t) (row_of-place t rows)
  where
    by_head : (b : Bool) → row_of t rows ≡ slice_get rows (place_of t rows)
        → cond b (Some row) (row_of t rows) ≡ slice_get (row ∷ rows) (cond b 0 (suc (place_of t rows)))
    by_head true rest = refl
    by_head false rest = rest

-- a thread's row is changed at its place
pub with_row-place : {B : Type 0} (t : ℕ) (change : Row B → Row B) (rows : List (Row B)) (row : Row B)
    → slice_get rows (place_of t rows) ≡ Some row → with_row t change rows ≡ slice_set rows (place_of t rows) (change row)
with_row-place t change [] row there = refl
with_row-place t change (r ∷ rows) row there = by_head (r.tid == t) (λ h. with_row-place t change rows row h) there
  where
    by_head : (b : Bool) → (slice_get rows (place_of t rows) ≡ Some row → with_row t change rows ≡ slice_set rows (place_of t rows) (change row))
        → slice_get (r ∷ rows) (cond b 0 (suc (place_of t rows))) ≡ Some row
        → cond b (change r ∷ rows) (r ∷ with_row t change rows) ≡ slice_set (r ∷ rows) (cond b 0 (suc (place_of t rows))) (change row)
    by_head true rest h = let same : r ≡ row = cc in rw same refl
    by_head false rest h = ap (λ l. r ∷ l) (rest h)

-- one element more of a list that is gone through
take-one : {X : Type 0} (xs : List X) (i : ℕ) (x : X) → slice_get xs i ≡ Some x → take (suc i) xs ≡ take i xs ++ x ∷ []
take-one [] i x h = absurd (cc)
take-one (y ∷ ys) zero x h = let same : y ≡ x = cc in ap (λ z. z ∷ []) same
take-one (y ∷ ys) (suc i) x h = ap (λ zs. y ∷ zs) (take-one ys i x h)

pub take_next : {X : Type 0} (xs : List X) (i : ℕ) (x : X) → slice_get xs i ≡ Some x → take (i + 1) xs ≡ take i xs ++ x ∷ []
take_next xs i x h = rw add-one (take-one xs i x h)
