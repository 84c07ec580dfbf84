-- The table: what holds of all its rows holds of each operation's, and each is found by its key.
use Rattle.std.proofs.Common.{◌≡◌, ℕ, zero, suc, ◌<◌, ◌≤◌, Bool, true, false, not, ◌||◌, cond, eqb, leb, List, [], ◌∷◌}
use Rattle.std.proofs.Common.{length, get_or, drop, map, Option, Some, None, refl, sym, ap, subst, ◌∙◌, arith}
use Rattle.std.specs.List.{list_all, range_with_len}
use Rattle.std.specs.Str.{bytes_eq}
use Rattle.std.proofs.lemmas.Bool.{leb-true}
use Rattle.std.proofs.lemmas.List.{get_or-map, get_or_default, length-map}
use Rattle.std.proofs.lemmas.List.FromFn.{get_or-range_with_len}
use Rattle.std.proofs.lemmas.Slice.Eq.{bytes_eq-Decides}
use denote.Enum.Bare.{sameb, same_true, true_same, tag_one}
use denote.Enum.Declared.{tag_of, variants}
use denote.Enum.Enum.{tag_below}
use Rattle.script_lines.specs.contracts.table.Op.{the_type}
use Rattle.script_lines.specs.contracts.table.Role.{the_type as role_type}
use Rattle.script_lines.specs.declared.table.Op.{Op}
use Rattle.script_lines.specs.declared.table.Role.{Role}
use Rattle.script_lines.specs.declared.table.Role.TheVariants as roles
use Rattle.script_lines.specs.Table.{Row, row, rows, row_of, key_of, role_of, first_letter, rises, op_in, op_at}
use Rattle.script_lines.proofs.WordLemmas.{both}

-- ---- Rows.

all_at : {A : Type 0} (f : A → Bool) (xs : List A) (k : ℕ) (d : A) → list_all f xs ≡ true → k < length xs → f (get_or xs k d) ≡ true
all_at f [] k d h lt = absurd (omega (arith, lt))
all_at f (x ∷ xs) zero d h lt = (both (f x) (list_all f xs) h).0
all_at f (x ∷ xs) (suc k) d h lt = all_at f xs k d (both (f x) (list_all f xs) h).1 (omega (arith, lt))

-- an operation's number
abbrev number : Op → ℕ
number o = tag_of the_type o

-- there is a row at each operation's number
within : (o : Op) → number o < length rows
within o = tag_below (variants the_type) (the_type.to o)

-- where what reads as the table is read at an operation's number, it is that operation's row
pub row_there : {X : Type 0} (f : X → Row) (xs : List X) (d : X) (o : Op) → map f xs ≡ rows → f (get_or xs (number o) d) ≡ row_of o
unfolding row_of
row_there f xs d o same =
    let inside : number o < length xs = subst (λ n. number o < n) (sym (ap length same) ∙ length-map xs f) (within o) in
    let other : Row = row o [] roles.Again [] in
    sym (get_or-map f xs (number o) d other inside) ∙ ap (λ rs. get_or rs (number o) other) same

-- what holds of all rows holds of each operation's
pub on_rows : (f : Row → Bool) → list_all f rows ≡ true → (o : Op) → f (row_of o) ≡ true
unfolding row_of
on_rows f h o = all_at f rows (number o) _ h (within o)

-- and it is the row of that operation, since the rows have the operations in their order
own_row : (o : Op) → (row_of o).op ≡ o
unfolding row_of
own_row o =
    let in_order : map (λ (r : Row). number r.op) rows ≡ range_with_len 0 (length rows) = refl in
    let there : number (row_of o).op
    ≡ get_or (map (λ (r : Row). number r.op) rows) (number o) 0 = sym (get_or-map (λ (r : Row). number r.op) rows (number o) _ 0 (within o)) in
    let same : number (row_of o).op
    ≡ number o = omega (arith, there ∙ ap (λ ns. get_or ns (number o) 0) in_order ∙ get_or-range_with_len 0 (length rows) (number o) 0 (within o)) in
    tag_one the_type tt (row_of o).op o same

-- what holds of all operations in the table holds of each
pub on_all : (f : Op → Bool) → list_all (λ (r : Row). f r.op) rows ≡ true → (o : Op) → f o ≡ true
on_all f h o = subst (λ x. f x ≡ true) (own_row o) (on_rows (λ (r : Row). f r.op) h o)

implied : (a b : Bool) → a ≡ true → (not a || b) ≡ true → b ≡ true
implied true b e h = h
implied false b e h = absurd cc

-- where no other row has its role, a row is known by it
pub only_of_role : (r : Role) (x : Op) → list_all (λ (y : Row). not (sameb role_type y.role r) || sameb the_type y.op x) rows ≡ true
    → (o : Op) → role_of o ≡ r → o ≡ x
only_of_role r x h o e =
    let by_table = on_rows (λ (y : Row). not (sameb role_type y.role r) || sameb the_type y.op x) h o in
    let same : sameb the_type (row_of o).op x
    ≡ true = implied (sameb role_type (role_of o) r) (sameb the_type (row_of o).op x) (true_same role_type (role_of o) r e) by_table in
    sym (own_row o) ∙ same_true the_type tt (row_of o).op x same

-- ---- By their keys.

found_in : (rs : List Row) (w : List ℕ) (o : Op) → list_all (λ (r : Row). bytes_eq (key_of r.op) r.key) rs ≡ true → op_in rs w ≡ Some o → w ≡ key_of o
found_in [] w o h e = absurd cc
found_in (r ∷ rs) w o h e =
    let t = both (bytes_eq (key_of r.op) r.key) (list_all (λ (r : Row). bytes_eq (key_of r.op) r.key) rs) h in
    elim (bytes_eq r.key w) as (λ v. bytes_eq r.key w ≡ v → cond v (Some r.op) (op_in rs w) ≡ Some o → w ≡ key_of o) [
      | true ↦ λ same f. let is : r.op ≡ o = cc in sym ((bytes_eq-Decides r.key w).0 same) ∙ sym ((bytes_eq-Decides (key_of r.op) r.key).0 t.0) ∙ ap key_of is
      | false ↦ λ same f. found_in rs w o t.1 f
    ] refl e

pub op_found : (w : List ℕ) (o : Op) → op_at w ≡ Some o → w ≡ key_of o
unfolding op_at row_of
op_found w o e = found_in rows w o refl e

-- the answer is this operation
is_found : Op → Option Op → Bool
is_found o None = false
is_found o (Some x) = eqb (number x) (number o)

found : (o : Op) (answer : Option Op) → is_found o answer ≡ true → answer ≡ Some o
unfolding is_found
found o None e = absurd cc
found o (Some x) e = ap (λ (y : Op). Some y) (same_true the_type tt x o e)

-- every operation is found by its key
pub op_again : (o : Op) → op_at (key_of o) ≡ Some o
unfolding op_at row_of is_found
op_again o = found o (op_at (key_of o)) (on_all (λ x. is_found x (op_at (key_of x))) refl o)

-- ---- By their letters.

module _ {X : Type 0} (read : X → Row) where
  abbrev letter : X → ℕ
  letter x = first_letter (read x).key

  -- no row has an earlier letter than the one from which on they rise
  pub none_earlier : (b : ℕ) (xs : List X) (k : ℕ) (d : X) → rises b (map read xs) ≡ true → k < length xs → b ≤ letter (get_or xs k d)
  none_earlier b [] k d h lt = absurd (omega (arith, lt))
  none_earlier b (x ∷ xs) zero d h lt = leb-true b (letter x) (both (leb b (letter x)) (rises (letter x) (map read xs)) h).0
  none_earlier b (x ∷ xs) (suc k) d h lt =
      let t = both (leb b (letter x)) (rises (letter x) (map read xs)) h in
      omega (arith, leb-true b (letter x) t.0, none_earlier (letter x) xs k d t.1 (omega (arith, lt)))

  -- nor has one that stands before another
  pub in_order : (b : ℕ) (xs : List X) (i j : ℕ) (d : X) → rises b (map read xs) ≡ true → i ≤ j → j < length xs
      → letter (get_or xs i d) ≤ letter (get_or xs j d)
  in_order b [] i j d h le lt = absurd (omega (arith, lt))
  in_order b (x ∷ xs) zero zero d h le lt = omega arith
  in_order b (x ∷ xs) zero (suc j) d h le lt = none_earlier (letter x) xs j d (both (leb b (letter x)) (rises (letter x) (map read xs)) h).1 (omega (arith, lt))
  in_order b (x ∷ xs) (suc i) zero d h le lt = absurd (omega (arith, le))
  in_order b (x ∷ xs) (suc i) (suc j) d h le lt =
      in_order (letter x) xs i j d (both (leb b (letter x)) (rises (letter x) (map read xs)) h).1 (omega (arith, le)) (omega (arith, lt))

  -- so where one has an earlier letter than this, those before it have
  pub earlier : (b : ℕ) (xs : List X) (n : ℕ) (e : X) (m : ℕ) → rises b (map read xs) ≡ true → n < length xs → letter (get_or xs n e) < m
      → (k : ℕ) (d : X) → k ≤ n → letter (get_or xs k d) < m
  earlier b xs n e m h lt less k d le = omega (arith, less, ap letter (get_or_default xs n d e lt), in_order b xs k n d h le lt)

  -- rows with earlier letters are passed over
  pub passed_over : (n : ℕ) (xs : List X) (w : List ℕ) → ((k : ℕ) (d : X) → k < n → letter (get_or xs k d) < first_letter w)
      → op_in (map read (drop n xs)) w ≡ op_in (map read xs) w
  passed_over zero xs w h = refl
  passed_over (suc n) [] w h = refl
  passed_over (suc n) (x ∷ xs) w h =
      let other : bytes_eq (read x).key w ≡ false = not_same (bytes_eq (read x).key w) refl in
      rw other (passed_over n xs w (λ k d lt. h (suc k) d (omega (arith, lt))))
    where
      not_same : (v : Bool) → bytes_eq (read x).key w ≡ v → v ≡ false
      not_same false e = refl
      not_same true e = absurd (omega (arith, h 0 x (omega arith), ap first_letter ((bytes_eq-Decides (read x).key w).0 e)))
