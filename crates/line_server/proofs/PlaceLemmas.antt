-- What is done at the place of a key is what the definitions say of the whole table.
use Rattle.line_server.specs.Places.{AreInOrder, IsGapAt, IsKeyAt, IsPlace}
use Rattle.line_server.specs.Tables.{Table, at_key, key_cmp}
use Rattle.std.proofs.Common.{Bool, Equal, Err, Greater, Less, List, None, Ok, Ordering, Result, Some, [], ap, arith, cond, false, get_or, inl, inr}
use Rattle.std.proofs.Common.{insert, is_err, is_none, length, refl, remove, set, subst, suc, sym, true, zero, ℕ, ◌+◌, ◌<◌, ◌∙◌, ◌∷◌, ◌≡◌, ◌≤◌}
use Rattle.std.proofs.lemmas.Bool.{cases_lt}
use Rattle.std.proofs.lemmas.Cmp.{nat_list_cmp_total}
use Rattle.std.proofs.lemmas.Map.Keys.{Less-from_sorted, sorted_tail}
use Rattle.std.specs.BTreeMap.{insert_entry, is_at}
use Rattle.std.specs.Cmp.Lexicographic.{bytes_decides, texts_ties}
use Rattle.std.specs.List.{AllByRecursion}
use Rattle.std.specs.List.Sorted.{IsStrictlySortedBy}
use Rattle.std.specs.Map.{keys_of, lookup, remove_entry}
use Rattle.std.specs.Ordering.{is_eq, match_ordering, ordering_reverse}

-- an entry
abbrev Pair : Type 0
Pair = List ℕ × List ℕ

flip : (x y : List ℕ) → key_cmp x y ≡ ordering_reverse (key_cmp y x)
flip = nat_list_cmp_total.antisymm

-- a key that ties is the same
same_key : (x y : List ℕ) → key_cmp x y ≡ Equal → x ≡ y
same_key x y h = (bytes_decides x y).0 (texts_ties x y ∙ ap is_eq h)

key_at : (es : Table) (i : ℕ) (d : Pair) → get_or (keys_of es) i d.0 ≡ (get_or es i d).0
key_at [] i d = refl
key_at (e ∷ es) zero d = refl
key_at (e ∷ es) (suc i) d = key_at es i d

length-keys : (es : Table) → length (keys_of es) ≡ length es
length-keys [] = refl
length-keys (e ∷ es) = ap suc (length-keys es)

-- a key is below a later one
rises : (es : Table) (i j : ℕ) (d : Pair) → AreInOrder es → i < j → j < length es → key_cmp (get_or es i d).0 (get_or es j d).0 ≡ Less
rises es i j d sorted lt within =
    sym (λ n. key_cmp (key_at es i d n) (key_at es j d n)) ∙ Less-from_sorted key_cmp (keys_of es) i j d.0 sorted lt (omega (arith, within, length-keys es))

-- ---- the search

-- the key is above all keys before low, and below those from high on
pub record IsBetween (key : List ℕ) (es : Table) (low high : ℕ) : Type 0 where
  pub order : low ≤ high
  pub within : high ≤ length es
  pub above : (j : ℕ) (d : Pair) → j < low → key_cmp key (get_or es j d).0 ≡ Greater
  pub below : (j : ℕ) (d : Pair) → high ≤ j → j < length es → key_cmp key (get_or es j d).0 ≡ Less

pub all_between : (key : List ℕ) (es : Table) → IsBetween key es 0 (length es)
all_between key es = record { order = omega arith; within = omega arith; above = λ j d lt. absurd (omega arith); below = λ j d le lt. absurd (omega arith) }

chain : (x y z : List ℕ) → key_cmp x y ≡ Less → key_cmp y z ≡ Less → key_cmp x z ≡ Less
chain = nat_list_cmp_total.trans

-- the key there is below: so are those before it
pub go_up : (key : List ℕ) (es : Table) (low high mid : ℕ) → AreInOrder es → IsBetween key es low high → low ≤ mid → mid < high
    → ((d : Pair) → key_cmp (get_or es mid d).0 key ≡ Less) → IsBetween key es (mid + 1) high
go_up key es low high mid sorted was le lt is = record {
  order = omega arith;
  within = was.within;
  above = λ j d under. flip key (get_or es j d).0 ∙ ap ordering_reverse (elim (cases_lt j mid) [
    | inl before ↦ chain (get_or es j d).0 (get_or es mid d).0 key (rises es j mid d sorted before (omega (arith, was.within))) (is d)
    | inr behind ↦ subst (λ n. key_cmp (get_or es n d).0 key ≡ Less) (omega arith) (is d)
  ]);
  below = was.below;
}

-- the key there is above: so are those after it
pub go_down : (key : List ℕ) (es : Table) (low high mid : ℕ) → AreInOrder es → IsBetween key es low high → low ≤ mid → mid < high
    → ((d : Pair) → key_cmp (get_or es mid d).0 key ≡ Greater) → IsBetween key es low mid
go_down key es low high mid sorted was le lt is = record {
  order = le;
  within = omega (arith, was.within);
  above = was.above;
  below = λ j d from within. elim (cases_lt mid j) [
    | inl behind
        ↦ chain key (get_or es mid d).0 (get_or es j d).0 (flip key (get_or es mid d).0 ∙ ap ordering_reverse (is d)) (rises es mid j d sorted behind within)
    | inr before ↦ subst (λ n. key_cmp key (get_or es n d).0 ≡ Less) (omega arith) (flip key (get_or es mid d).0 ∙ ap ordering_reverse (is d))
  ];
}

any_default : (es : Table) (i : ℕ) (d e : Pair) → i < length es → get_or es i d ≡ get_or es i e
any_default [] i d e within = absurd (omega arith)
any_default (x ∷ es) zero d e within = refl
any_default (x ∷ es) (suc i) d e within = any_default es i d e (omega arith)

-- how the entry that was read there compares with the key, whatever a read past the end would give
pub there : (key : List ℕ) (es : Table) (i : ℕ) (e : Pair) (o : Ordering) → i < length es → e ≡ get_or es i e → key_cmp e.0 key ≡ o
    → (d : Pair) → key_cmp (get_or es i d).0 key ≡ o
there key es i e o within is h d = ap (λ p. key_cmp p.0 key) (any_default es i d e within ∙ sym is) ∙ h

-- nothing is left between: the key belongs there
pub is-gap : (key : List ℕ) (es : Table) (low high : ℕ) → IsBetween key es low high → high ≤ low → IsGapAt key es low
is-gap key es low high was met = record {
  within = omega (arith, was.order, was.within);
  above = was.above;
  below = λ j d le lt. was.below j d (omega arith) lt;
}

pub is-key : (key : List ℕ) (es : Table) (mid : ℕ) → mid < length es → ((d : Pair) → key_cmp (get_or es mid d).0 key ≡ Equal) → IsKeyAt key es mid
is-key key es mid within is = record { within = within; here = λ d. flip key (get_or es mid d).0 ∙ ap ordering_reverse (is d) }

-- ---- where the key stands

-- a key that stands further on is above the first
above_first : (key : List ℕ) (e : Pair) (es : Table) (i : ℕ) (d : Pair) → AreInOrder (e ∷ es) → IsKeyAt key (e ∷ es) (suc i) → key_cmp key e.0 ≡ Greater
above_first key e es i d sorted at =
    nat_list_cmp_total.congr key (get_or es i d).0 e.0 (at.here d) ∙ flip (get_or es i d).0 e.0
    ∙ ap ordering_reverse (rises (e ∷ es) 0 (suc i) d sorted (omega arith) at.within)

behind : (key : List ℕ) (e : Pair) (es : Table) (i : ℕ) → IsKeyAt key (e ∷ es) (suc i) → IsKeyAt key es i
behind key e es i at = record { within = omega (arith, at.within); here = λ d. at.here d }

pub found : (key : List ℕ) (es : Table) (i : ℕ) (d : Pair) → AreInOrder es → IsKeyAt key es i → lookup (is_at (key_cmp key)) es ≡ Some (get_or es i d).1
found key [] i d sorted at = absurd (omega (arith, at.within))
found key (e ∷ es) zero d sorted at = λ n. cond (is_eq (at.here d n)) (Some e.1) (lookup (is_at (key_cmp key)) es)
found key (e ∷ es) (suc i) d sorted at =
    (λ n. cond (is_eq (above_first key e es i d sorted at n)) (Some e.1) (lookup (is_at (key_cmp key)) es))
    ∙ found key es i d (sorted_tail key_cmp e.0 (keys_of es) sorted) (behind key e es i at)

pub replaced : (key value : List ℕ) (es : Table) (i : ℕ) (d : Pair) → AreInOrder es → IsKeyAt key es i
    → set es i (key, value) ≡ insert_entry key_cmp es key value
replaced key value [] i d sorted at = absurd (omega (arith, at.within))
replaced key value (e ∷ es) zero d sorted at =
    (λ n. (same_key key e.0 (at.here d) n, value) ∷ es)
    ∙ sym (λ n. match_ordering (at.here d n) ((key, value) ∷ e ∷ es) ((e.0, value) ∷ es) (e ∷ insert_entry key_cmp es key value))
replaced key value (e ∷ es) (suc i) d sorted at =
    ap (λ rest. e ∷ rest) (replaced key value es i d (sorted_tail key_cmp e.0 (keys_of es) sorted) (behind key e es i at))
    ∙ sym (λ n. match_ordering (above_first key e es i d sorted at n) ((key, value) ∷ e ∷ es) ((e.0, value) ∷ es) (e ∷ insert_entry key_cmp es key value))

pub taken : (key : List ℕ) (es : Table) (i : ℕ) (d : Pair) → AreInOrder es → IsKeyAt key es i → remove es i ≡ remove_entry (is_at (key_cmp key)) es
taken key [] i d sorted at = absurd (omega (arith, at.within))
taken key (e ∷ es) zero d sorted at = sym (λ n. cond (is_eq (at.here d n)) es (e ∷ remove_entry (is_at (key_cmp key)) es))
taken key (e ∷ es) (suc i) d sorted at =
    ap (λ rest. e ∷ rest) (taken key es i d (sorted_tail key_cmp e.0 (keys_of es) sorted) (behind key e es i at))
    ∙ sym (λ n. cond (is_eq (above_first key e es i d sorted at n)) es (e ∷ remove_entry (is_at (key_cmp key)) es))

-- ---- where it doesn't

past : (key : List ℕ) (e : Pair) (es : Table) (i : ℕ) → IsGapAt key (e ∷ es) (suc i) → IsGapAt key es i
past key e es i gap = record {
  within = omega (arith, gap.within);
  above = λ j d lt. gap.above (suc j) d (omega arith);
  below = λ j d le lt. gap.below (suc j) d (omega arith) (omega arith);
}

-- where the key is below all, it is below the others too
below_others : (key : List ℕ) (e : Pair) (es : Table) → IsGapAt key (e ∷ es) 0 → IsGapAt key es 0
below_others key e es gap = record {
  within = omega arith;
  above = λ j d lt. absurd (omega arith);
  below = λ j d le lt. gap.below (suc j) d (omega arith) (omega arith);
}

pub missing : (key : List ℕ) (es : Table) (i : ℕ) → IsGapAt key es i → lookup (is_at (key_cmp key)) es ≡ None
missing key [] i gap = refl
missing key (e ∷ es) zero gap = (λ n. cond (is_eq (gap.below 0 e (omega arith) (omega arith) n)) (Some e.1) (lookup (is_at (key_cmp key)) es))
    ∙ missing key es 0 (below_others key e es gap)
missing key (e ∷ es) (suc i) gap = (λ n. cond (is_eq (gap.above 0 e (omega arith) n)) (Some e.1) (lookup (is_at (key_cmp key)) es))
    ∙ missing key es i (past key e es i gap)

pub not_taken : (key : List ℕ) (es : Table) (i : ℕ) → IsGapAt key es i → remove_entry (is_at (key_cmp key)) es ≡ es
not_taken key [] i gap = refl
not_taken key (e ∷ es) zero gap =
    (λ n. cond (is_eq (gap.below 0 e (omega arith) (omega arith) n)) es (e ∷ remove_entry (is_at (key_cmp key)) es))
    ∙ ap (λ rest. e ∷ rest) (not_taken key es 0 (below_others key e es gap))
not_taken key (e ∷ es) (suc i) gap =
    (λ n. cond (is_eq (gap.above 0 e (omega arith) n)) es (e ∷ remove_entry (is_at (key_cmp key)) es))
    ∙ ap (λ rest. e ∷ rest) (not_taken key es i (past key e es i gap))

pub added : (key value : List ℕ) (es : Table) (i : ℕ) → IsGapAt key es i → insert es i (key, value) ≡ insert_entry key_cmp es key value
added key value [] zero gap = refl
added key value [] (suc i) gap = absurd (omega (arith, gap.within))
added key value (e ∷ es) zero gap =
    sym (λ n. match_ordering (gap.below 0 e (omega arith) (omega arith) n) ((key, value) ∷ e ∷ es) ((e.0, value) ∷ es) (e ∷ insert_entry key_cmp es key value))
added key value (e ∷ es) (suc i) gap =
    ap (λ rest. e ∷ rest) (added key value es i (past key e es i gap))
    ∙ sym (λ n. match_ordering (gap.above 0 e (omega arith) n) ((key, value) ∷ e ∷ es) ((e.0, value) ∷ es) (e ∷ insert_entry key_cmp es key value))

-- ---- the order stays

-- the keys are above this one
abbrev AreAbove : List ℕ → Table → Type 0
AreAbove k es = AllByRecursion (λ y. key_cmp k y ≡ Less) (keys_of es)

above-insert : (k key value : List ℕ) (es : Table) → key_cmp k key ≡ Less → AreAbove k es → AreAbove k (insert_entry key_cmp es key value)
above-insert k key value [] new all = (new, tt)
above-insert k key value (e ∷ es) new all = by (key_cmp key e.0) (above-insert k key value es new all.1)
  where
    by : (r : Ordering) → AreAbove k (insert_entry key_cmp es key value)
        → AreAbove k (match_ordering r ((key, value) ∷ e ∷ es) ((e.0, value) ∷ es) (e ∷ insert_entry key_cmp es key value))
    by Less later = (new, all)
    by Equal later = all
    by Greater later = (all.0, later)

above-remove : (k key : List ℕ) (es : Table) → AreAbove k es → AreAbove k (remove_entry (is_at (key_cmp key)) es)
above-remove k key [] all = tt
above-remove k key (e ∷ es) all = by (is_eq (key_cmp key e.0)) (above-remove k key es all.1)
  where
    by : (b : Bool) → AreAbove k (remove_entry (is_at (key_cmp key)) es) → AreAbove k (cond b es (e ∷ remove_entry (is_at (key_cmp key)) es))
    by true later = all.1
    by false later = (all.0, later)

-- what is above a key is above what is below that
above-chain : (k l : List ℕ) (es : Table) → key_cmp k l ≡ Less → AreAbove l es → AreAbove k es
above-chain k l [] lt all = tt
above-chain k l (e ∷ es) lt all = (nat_list_cmp_total.trans k l e.0 lt all.0, above-chain k l es lt all.1)

pub AreInOrder-insert : (key value : List ℕ) (es : Table) → AreInOrder es → AreInOrder (insert_entry key_cmp es key value)
unfolding IsStrictlySortedBy
AreInOrder-insert key value [] sorted = (tt, tt)
AreInOrder-insert key value (e ∷ es) sorted = by (key_cmp key e.0) refl (AreInOrder-insert key value es sorted.1)
  where
    by : (r : Ordering) → key_cmp key e.0 ≡ r → AreInOrder (insert_entry key_cmp es key value)
        → AreInOrder (match_ordering r ((key, value) ∷ e ∷ es) ((e.0, value) ∷ es) (e ∷ insert_entry key_cmp es key value))
    by Less h later = ((h, above-chain key e.0 es h sorted.0), sorted)
    by Equal h later = sorted
    by Greater h later = (above-insert e.0 key value es (flip e.0 key ∙ ap ordering_reverse h) sorted.0, later)

pub AreInOrder-remove : (key : List ℕ) (es : Table) → AreInOrder es → AreInOrder (remove_entry (is_at (key_cmp key)) es)
unfolding IsStrictlySortedBy
AreInOrder-remove key [] sorted = tt
AreInOrder-remove key (e ∷ es) sorted = by (is_eq (key_cmp key e.0)) (AreInOrder-remove key es sorted.1)
  where
    by : (b : Bool) → AreInOrder (remove_entry (is_at (key_cmp key)) es) → AreInOrder (cond b es (e ∷ remove_entry (is_at (key_cmp key)) es))
    by true later = sorted.1
    by false later = (above-remove e.0 key es sorted.0, later)

pub AreInOrder-empty : AreInOrder []
unfolding IsStrictlySortedBy
AreInOrder-empty = tt

-- ---- what the functions say of it

pub is-missing : (key : List ℕ) (es : Table) (r : Result ℕ ℕ) → AreInOrder es → IsPlace key es r → is_err r ≡ is_none (at_key key es)
is-missing key [] (Ok i) sorted at = absurd (omega (arith, at.within))
is-missing key (e ∷ es) (Ok i) sorted at = sym (ap is_none (found key (e ∷ es) i e sorted at))
is-missing key es (Err i) sorted gap = sym (ap is_none (missing key es i gap))

pub AreInOrder-put : (key value : List ℕ) (es new : Table) → AreInOrder es → new ≡ insert_entry key_cmp es key value → AreInOrder new
AreInOrder-put key value es new sorted is = subst AreInOrder (sym is) (AreInOrder-insert key value es sorted)

pub AreInOrder-taken : (key : List ℕ) (es new : Table) → AreInOrder es → new ≡ remove_entry (is_at (key_cmp key)) es → AreInOrder new
AreInOrder-taken key es new sorted is = subst AreInOrder (sym is) (AreInOrder-remove key es sorted)
