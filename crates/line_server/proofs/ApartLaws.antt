-- A store's letter from one sender changes no other's table.
use Rattle.line_server.specs.Stores.{Letters, Tables, table_of, tables_after, texts_of, replies_among, served_sender}
use Rattle.line_server.specs.Tables.{Table, replies, served_text}
use Rattle.std.proofs.Common.{Bool, List, None, Some, [], ap, cond, false, refl, subst, sym, true, ℕ, ◌≡◌, ◌∙◌, ◌∷◌}
use Rattle.std.proofs.lemmas.Bool.{eq-eqb, eqb-true}
use Rattle.std.specs.BTreeMap.{insert_entry, is_at}
use Rattle.std.specs.Cmp.{unsigned_tied}
use Rattle.std.specs.Map.{lookup}
use Rattle.std.specs.declared.cmp.Ordering.{Ordering}
use Rattle.std.specs.Ordering.{is_eq, match_ordering, nat_cmp}
use Rattle.std.specs.declared.cmp.Ordering.TheVariants.{Equal, Greater, Less}
use Rattle.std.specs.Option.{unwrap_or}
use Rattle.std.specs.Prelude.{filter, map, nat_eq}

-- a number is at its own place
same : (x : ℕ) → is_eq (nat_cmp x x) ≡ true
same x = unsigned_tied x x ∙ eq-eqb x x refl

-- what was put is found
found-own : (x : ℕ) (t : Table) (es : Tables) → lookup (is_at (nat_cmp x)) (insert_entry nat_cmp es x t) ≡ Some t
found-own x t [] = λ i. cond (same x i) (Some t) None
found-own x t (e ∷ es) = by (nat_cmp x e.0) refl (found-own x t es)
  where
    by : (r : Ordering) → nat_cmp x e.0 ≡ r → lookup (is_at (nat_cmp x)) (insert_entry nat_cmp es x t) ≡ Some t
        → lookup (is_at (nat_cmp x)) (match_ordering r ((x, t) ∷ e ∷ es) ((e.0, t) ∷ es) (e ∷ insert_entry nat_cmp es x t)) ≡ Some t
    by Less h later = λ i. cond (same x i) (Some t) (lookup (is_at (nat_cmp x)) (e ∷ es))
    by Equal h later = λ i. cond (is_eq (h i)) (Some t) (lookup (is_at (nat_cmp x)) es)
    by Greater h later = (λ i. cond (is_eq (h i)) (Some e.1) (lookup (is_at (nat_cmp x)) (insert_entry nat_cmp es x t))) ∙ later

-- another is found as before
found-other : (x y : ℕ) (t : Table) → nat_eq x y ≡ false → (es : Tables)
    → lookup (is_at (nat_cmp x)) (insert_entry nat_cmp es y t) ≡ lookup (is_at (nat_cmp x)) es
found-other x y t apart [] = λ i. cond ((unsigned_tied x y ∙ apart) i) (Some t) None
found-other x y t apart (e ∷ es) = by (nat_cmp y e.0) refl (found-other x y t apart es)
  where
    by : (r : Ordering) → nat_cmp y e.0 ≡ r → lookup (is_at (nat_cmp x)) (insert_entry nat_cmp es y t) ≡ lookup (is_at (nat_cmp x)) es
        → lookup (is_at (nat_cmp x)) (match_ordering r ((y, t) ∷ e ∷ es) ((e.0, t) ∷ es) (e ∷ insert_entry nat_cmp es y t))
        ≡ lookup (is_at (nat_cmp x)) (e ∷ es)
    by Less h later = λ i. cond ((unsigned_tied x y ∙ apart) i) (Some t) (lookup (is_at (nat_cmp x)) (e ∷ es))
    by Equal h later =
        let is : y ≡ e.0 = eqb-true y e.0 (sym (unsigned_tied y e.0) ∙ ap is_eq h) in
        let off : is_eq (nat_cmp x e.0) ≡ false = unsigned_tied x e.0 ∙ subst (λ n. nat_eq x n ≡ false) is apart in
        (λ i. cond (off i) (Some t) (lookup (is_at (nat_cmp x)) es)) ∙ sym (λ i. cond (off i) (Some e.1) (lookup (is_at (nat_cmp x)) es))
    by Greater h later = ap (λ rest. cond (is_eq (nat_cmp x e.0)) (Some e.1) rest) later

-- the table of a sender after its own text, and after another's
pub own-table : (x : ℕ) (text : List ℕ) (tables : Tables) → table_of x (tables_after x text tables) ≡ (served_text text (table_of x tables)).table
own-table x text tables = ap (λ o. unwrap_or o []) (found-own x (served_text text (table_of x tables)).table tables)

pub other-table : (x y : ℕ) (text : List ℕ) (tables : Tables) → nat_eq x y ≡ false → table_of x (tables_after y text tables) ≡ table_of x tables
other-table x y text tables apart = ap (λ o. unwrap_or o []) (found-other x y (served_sender y text tables).table apart tables)

pub apart : (x : ℕ) (tables : Tables) (letters : Letters) → replies_among x tables letters ≡ replies (table_of x tables) (texts_of x letters)
apart x tables [] = refl
apart x tables (l ∷ ls) = by (nat_eq x l.0) refl (apart x (tables_after l.0 l.1 tables) ls)
  where
    later : List (List ℕ)
    later = replies_among x (tables_after l.0 l.1 tables) ls

    kept : Letters
    kept = filter (λ m. nat_eq x m.0) ls

    mapped : Letters → List (List ℕ)
    mapped ms = map (λ m. m.1) ms

    by : (b : Bool) → nat_eq x l.0 ≡ b → replies_among x (tables_after l.0 l.1 tables) ls ≡ replies (table_of x (tables_after l.0 l.1 tables)) (texts_of x ls)
        → replies_among x tables (l ∷ ls) ≡ replies (table_of x tables) (texts_of x (l ∷ ls))
    by true h e =
        let same = subst (λ n. table_of x (tables_after n l.1 tables) ≡ (served_text l.1 (table_of x tables)).table) (eqb-true x l.0 h)
        (own-table x l.1 tables) in
        (λ i. cond (h i) ((served_sender x l.1 tables).reply ∷ later) later)
        ∙ ap (λ rest. (served_sender x l.1 tables).reply ∷ rest) (e ∙ ap (λ t. replies t (texts_of x ls)) same)
        ∙ sym (λ i. replies (table_of x tables) (mapped (cond (h i) (l ∷ kept) kept)))
    by false h e =
        (λ i. cond (h i) ((served_sender x l.1 tables).reply ∷ later) later)
        ∙ e ∙ ap (λ t. replies t (texts_of x ls)) (other-table x l.0 l.1 tables h)
        ∙ sym (λ i. replies (table_of x tables) (mapped (cond (h i) (l ∷ kept) kept)))
