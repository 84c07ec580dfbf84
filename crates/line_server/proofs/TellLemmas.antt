-- The value of a command is part of its text; a table that was written through is one that was put anew.
use Rattle.line_server.specs.Commands.{Command, Del, Get, Put, alone, command_by, command_of, is_key_length, key_len, put_command}
use Rattle.line_server.specs.Read.{read_command}
use Rattle.line_server.specs.Stores.{Tables, tables_after}
use Rattle.line_server.specs.Tables.{Table, served_text}
use Rattle.line_server.specs.declared.command.Asked.{Asked}
use Rattle.line_server.specs.declared.command.Asked.TheVariants as asked
use Rattle.lwp_types.specs.TextFields.{is_printable, is_text}
use Rattle.std.proofs.Common.{Bool, IsTrue, List, None, Option, Some, [], ap, arith, cond, drop, false, is_some, length, refl, subst, sym, take}
use Rattle.std.proofs.Common.{true, true≢false, ℕ, zero, suc, ◌≡◌, ◌≤◌, ◌∙◌, ◌∷◌}
use Rattle.std.proofs.lemmas.Bool.{leb-true}
use Rattle.std.proofs.lemmas.List.{length-drop}
use Rattle.std.specs.Borrow.{Bor}
use Rattle.std.specs.Cmp.{first_so, second_so}
use Rattle.std.specs.List.{list_all}
use Rattle.std.proofs.lemmas.Cmp.{nat_cmp_total}
use Rattle.std.proofs.lemmas.Map.{lookup-none}
use Rattle.std.proofs.lemmas.Map.Entries.{none_below_head}
use Rattle.std.proofs.lemmas.Map.Keys.{sorted_tail}
use Rattle.std.specs.BTreeMap.{insert_entry, is_at}
use Rattle.std.specs.List.Sorted.{IsStrictlySortedBy}
use Rattle.std.specs.Map.{keys_of, lookup, set_value}
use Rattle.std.specs.declared.cmp.Ordering.{Ordering}
use Rattle.std.specs.Ordering.{is_eq, match_ordering, nat_cmp}
use Rattle.std.specs.declared.cmp.Ordering.TheVariants.{Equal, Greater, Less}
use Rattle.std.specs.Option.{option_map, unwrap_or}
use Rattle.std.specs.Prelude.{Err, Ok, OnOk, Result, codes, nat_le, ◌==◌}
use Rattle.std.specs.Str.{bytes_eq}

-- ---- values

-- the value of a put; any other command has the empty one
abbrev value_of : Option Command → List ℕ
value_of (Some (Put key value)) = value
value_of _ = []

-- the bytes are few enough, and printable
pub record IsValue (bytes : List ℕ) : Type 0 where
  pub short : length bytes ≤ 237
  pub printable : IsTrue (is_printable bytes)

nothing : IsValue []
nothing = record { short = omega arith; printable = refl }

either : (b : Bool) (x y : Option Command) → IsValue (value_of x) → IsValue (value_of y) → IsValue (value_of (cond b x y))
either true x y hx hy = hx
either false x y hx hy = hy

put-value : (key behind : List ℕ) → IsValue (drop 1 behind) → IsValue (value_of (put_command key behind))
put-value key [] h = nothing
put-value key (s ∷ []) h = nothing
put-value key (s ∷ b ∷ bs) h = either (s == 32) _ _ h nothing

get-value : (key behind : List ℕ) → IsValue (value_of (alone (Get key) behind))
get-value key [] = nothing
get-value key (b ∷ bs) = nothing

del-value : (key behind : List ℕ) → IsValue (value_of (alone (Del key) behind))
del-value key [] = nothing
del-value key (b ∷ bs) = nothing

asked-value : (word key behind : List ℕ) → IsValue (drop 1 behind) → IsValue (value_of (command_by word key behind))
asked-value word key behind h =
    either (bytes_eq word (codes "put ")) _ _ (put-value key behind h)
    (either (bytes_eq word (codes "get ")) _ _ (get-value key behind)
    (either (bytes_eq word (codes "del ")) _ _ (del-value key behind) nothing))

all-drop : (p : ℕ → Bool) (n : ℕ) (xs : List ℕ) → list_all p xs ≡ true → list_all p (drop n xs) ≡ true
all-drop p zero xs h = h
all-drop p (suc n) [] h = h
all-drop p (suc n) (x ∷ xs) h = all-drop p n xs (second_so (p x) (list_all p xs) h)

dropped-value : (n : ℕ) (text : List ℕ) → IsTrue (is_text text) → IsValue (drop 1 (drop n (drop 4 text)))
dropped-value n text h =
    let small = leb-true (length text) 240 (first_so (nat_le (length text) 240) (is_printable text) h) in
    record {
      short = omega (arith, small, length-drop 1 (drop n (drop 4 text)), length-drop n (drop 4 text), length-drop 4 text);
      printable = all-drop _ 1 (drop n (drop 4 text))
          (all-drop _ n (drop 4 text) (all-drop _ 4 text (second_so (nat_le (length text) 240) (is_printable text) h)));
    }

command-value : (text : List ℕ) → IsTrue (is_text text) → IsValue (value_of (command_of text))
command-value text h =
    let rest = drop 4 text in
    let n = key_len rest in
    let word = take 4 text in
    either (is_key_length n) (command_by word (take n rest) (drop n rest)) None (asked-value word (take n rest) (drop n rest) (dropped-value n text h)) nothing

put-fits : (text key value : List ℕ) → IsTrue (is_text text) → command_of text ≡ Some (Put key value) → IsValue value
put-fits text key value h e = subst (λ c. IsValue (value_of c)) e (command-value text h)

-- the value of a put that was read is short and printable
pub read-fits : (text bytes : List ℕ) (r : Option Asked) (a : Asked) (key value : Bor (List ℕ)) → IsTrue (is_text text) → bytes ≡ text
    → option_map read_command r ≡ command_of bytes
    → r ≡ Some a → a ≡ asked.Put key value → IsValue value.now
read-fits text bytes r a key value h same e is put =
    put-fits text key.now value.now h (ap command_of (sym same) ∙ sym e ∙ ap (option_map read_command) is ∙ ap (λ x. Some (read_command x)) put)

-- ---- tables

-- a value written at a key that is there was put there
set-is-insert : {V : Type 0} (es : List (ℕ × V)) (x : ℕ) (new : V) → IsStrictlySortedBy nat_cmp (keys_of es) → is_some (lookup (is_at (nat_cmp x)) es) ≡ true
    → set_value (is_at (nat_cmp x)) es new ≡ insert_entry nat_cmp es x new
set-is-insert [] x new sorted there = absurd (true≢false (sym there))
set-is-insert {V} (e ∷ es) x new sorted there = by (nat_cmp x e.0) refl (set-is-insert es x new (sorted_tail nat_cmp e.0 (keys_of es) sorted)) there
  where
    by : (r : Ordering) → nat_cmp x e.0 ≡ r
        → (is_some (lookup (is_at (nat_cmp x)) es) ≡ true → set_value (is_at (nat_cmp x)) es new ≡ insert_entry nat_cmp es x new)
        → is_some (cond (is_eq r) (Some e.1) (lookup (is_at (nat_cmp x)) es)) ≡ true
        → cond (is_eq r) ((e.0, new) ∷ es) (e ∷ set_value (is_at (nat_cmp x)) es new)
        ≡ match_ordering r ((x, new) ∷ e ∷ es) ((e.0, new) ∷ es) (e ∷ insert_entry nat_cmp es x new)
    by Less h later found = absurd (true≢false (sym found ∙ ap is_some (lookup-none (is_at (nat_cmp x)) es (none_below_head nat_cmp_total x e es sorted h).1)))
    by Equal h later found = refl
    by Greater h later found = ap (λ rest. e ∷ rest) (later found)

-- a table that was there was told through a reference: it was put there
pub told-after : (es written : Tables) (x : ℕ) (text : List ℕ) (old new : Table) → IsStrictlySortedBy nat_cmp (keys_of es)
    → lookup (is_at (nat_cmp x)) es ≡ Some old
    → written ≡ set_value (is_at (nat_cmp x)) es new → new ≡ (served_text text old).table → written ≡ tables_after x text es
told-after es written x text old new sorted there w n =
    w ∙ ap (set_value (is_at (nat_cmp x)) es) n ∙ set-is-insert es x (served_text text old).table sorted (ap is_some there)
    ∙ ap (λ o. insert_entry nat_cmp es x (served_text text (unwrap_or o [])).table) (sym there)

pub if-done : {A E : Type 0} (r : Result A E) (P Q : Type 0) → (P → Q) → OnOk r P → OnOk r Q
if-done (Ok x) P Q f h = f h
if-done (Err e) P Q f h = h
