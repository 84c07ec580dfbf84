-- A word that is put under its number, or under its bytes, changes what is found under it and under no other word.
use Rattle.std.proofs.Common.{Bool, List, None, Option, Some, Vec, [], ap, cond, false, refl, subst, sym, true, true≢false, ℕ, ◌<◌, ◌≤◌, ◌∙◌, ◌∷◌, ◌≡◌}
use Rattle.std.proofs.lemmas.Bool.{eq-eqb, eqb-true, le-leb, lt-leb}
use Rattle.std.proofs.lemmas.Map.Text.{is_eq-slice_cmp}
use Rattle.std.specs.BTreeMap.{BTreeMap, UpdatesBy, is_at}
use Rattle.std.specs.Cmp.{both_ways, eq_by_cmp_equiv, unsigned_tied}
use Rattle.std.specs.Cmp.Lexicographic.{bytes_decides, nat_list_cmp_total, nat_list_eq_equiv, slice_cmp}
use Rattle.std.specs.Map.{AreApart, IsKeyTest, KeepsOthers, lookup}
use Rattle.std.specs.Ordering.{is_eq, nat_cmp}
use Rattle.std.specs.Prelude.{nat_le, ◌==◌}
use Rattle.std.specs.Str.{bytes_eq}
use Rattle.script_text.specs.WordIndex.{Numbered, Puts, at_digits, entries_by_key, entry_under}
use Rattle.script_text.specs.PackedWords.{word_number}
use Rattle.script_text.proofs.PackedLemmas.{same_packed}

-- ---- under a number

apart_none : (v w : List ℕ) (n : ℕ) → word_number v ≡ Some n → word_number w ≡ None → bytes_eq v w ≡ false
apart_none v w n ev ew = by (bytes_eq v w) refl
  where
    by : (b : Bool) → bytes_eq v w ≡ b → bytes_eq v w ≡ false
    by true h = let same : v ≡ w = (bytes_decides v w).0 h in let both : Some n ≡ None = sym ev ∙ ap word_number same ∙ ew in absurd cc
    by false h = h

-- the words are the same where their numbers are
same_test : (v w : List ℕ) (m n : ℕ) → word_number v ≡ Some m → word_number w ≡ Some n → is_eq (nat_cmp m n) ≡ bytes_eq v w
same_test v w m n ev ew = unsigned_tied m n ∙ both_ways (m == n) (bytes_eq v w)
    (λ h. (bytes_decides v w).1 (let same : m ≡ n = eqb-true m n h in same_packed v w n (ev ∙ ap (λ k. Some k) same) ew))
    (λ h. let both : Some m ≡ Some n = sym ev ∙ ap word_number ((bytes_decides v w).0 h) ∙ ew in eq-eqb m n cc)

-- a number as it is tested: where k is small and d isn't, or the other way round, they differ
other_size : (k d : ℕ) (a b : Bool) → nat_le k 18446744073709551615 ≡ a → nat_le d 18446744073709551615 ≡ b → (a ≡ b → ⊥) → is_eq (nat_cmp k d) ≡ false
other_size k d a b ka db apart = by (is_eq (nat_cmp k d)) refl
  where
    by : (t : Bool) → is_eq (nat_cmp k d) ≡ t → is_eq (nat_cmp k d) ≡ false
    by true h = absurd (apart (sym ka ∙ ap (λ n. nat_le n 18446744073709551615) (eqb-true k d (sym (unsigned_tied k d) ∙ h)) ∙ db))
    by false h = h

abbrev pub PutsAt : List (ℕ × ℕ) → List (ℕ × ℕ) → ℕ → Option ℕ → Type 0
PutsAt old new k number = (q : ℕ) → lookup (λ key. is_eq (nat_cmp q key)) new ≡ cond (is_eq (nat_cmp k q)) number (lookup (λ key. is_eq (nat_cmp q key)) old)

module _ (word : List ℕ) (number : Option ℕ) (old new : Numbered) where
  -- a number that is put among those of its size
  put_number : (k : ℕ) → word_number word ≡ Some k → new.long ≡ old.long
      → ((d : ℕ) → at_digits new d ≡ cond (is_eq (nat_cmp k d)) number (at_digits old d))
      → Puts old new word number
  put_number k e same puts w = by (word_number w) refl
    where
      by : (p : Option ℕ) → word_number w ≡ p → entry_under new w p ≡ cond (bytes_eq word w) number (entry_under old w p)
      by (Some d) h = puts d ∙ ap (λ b. cond b number (at_digits old d)) (same_test word w k d e h)
      by None h = ap (lookup (λ key. is_eq (slice_cmp nat_cmp w key))) same
          ∙ sym (λ i. cond (apart_none word w k e h i) number (lookup (λ key. is_eq (slice_cmp nat_cmp w key)) old.long))

  pub put_short : (k : ℕ) → word_number word ≡ Some k → k ≤ 18446744073709551615 → new.wide ≡ old.wide → new.long ≡ old.long
      → PutsAt old.short new.short k number → Puts old new word number
  put_short k e small wide long puts = put_number k e long (λ d. by d (nat_le d 18446744073709551615) refl)
    where
      by : (d : ℕ) (b : Bool) → nat_le d 18446744073709551615 ≡ b
          → cond b (lookup (λ key. is_eq (nat_cmp d key)) new.short) (lookup (λ key. is_eq (nat_cmp d key)) new.wide)
          ≡ cond (is_eq (nat_cmp k d)) number (cond b (lookup (λ key. is_eq (nat_cmp d key)) old.short) (lookup (λ key. is_eq (nat_cmp d key)) old.wide))
      by d true h = puts d
      by d false h = ap (lookup (λ key. is_eq (nat_cmp d key))) wide
          ∙ sym (λ i.
          cond (other_size k d true false (le-leb k 18446744073709551615 small) h true≢false i) number (lookup (λ key. is_eq (nat_cmp d key)) old.wide))

  pub put_wide : (k : ℕ) → word_number word ≡ Some k → 18446744073709551615 < k → new.short ≡ old.short → new.long ≡ old.long
      → PutsAt old.wide new.wide k number → Puts old new word number
  put_wide k e great short long puts = put_number k e long (λ d. by d (nat_le d 18446744073709551615) refl)
    where
      by : (d : ℕ) (b : Bool) → nat_le d 18446744073709551615 ≡ b
          → cond b (lookup (λ key. is_eq (nat_cmp d key)) new.short) (lookup (λ key. is_eq (nat_cmp d key)) new.wide)
          ≡ cond (is_eq (nat_cmp k d)) number (cond b (lookup (λ key. is_eq (nat_cmp d key)) old.short) (lookup (λ key. is_eq (nat_cmp d key)) old.wide))
      by d true h = ap (lookup (λ key. is_eq (nat_cmp d key))) short
          ∙ sym (λ i. cond (other_size k d false true (lt-leb k 18446744073709551615 great) h (λ e. true≢false (sym e)) i) number
          (lookup (λ key. is_eq (nat_cmp d key)) old.short))
      by d false h = puts d

  pub put_long : word_number word ≡ None → new.short ≡ old.short → new.wide ≡ old.wide
      → ((q : List ℕ)
      → lookup (λ key. is_eq (slice_cmp nat_cmp q key)) new.long ≡ cond (bytes_eq word q) number (lookup (λ key. is_eq (slice_cmp nat_cmp q key)) old.long))
      → Puts old new word number
  put_long e short wide puts w = by (word_number w) refl
    where
      by : (p : Option ℕ) → word_number w ≡ p → entry_under new w p ≡ cond (bytes_eq word w) number (entry_under old w p)
      by (Some d) h = (λ i.
          cond (nat_le d 18446744073709551615) (lookup (λ key. is_eq (nat_cmp d key)) (short i)) (lookup (λ key. is_eq (nat_cmp d key)) (wide i)))
          ∙ sym (λ i. cond ((nat_list_eq_equiv.symm word w ∙ apart_none w word d h e) i) number (at_digits old d))
      by None h = puts w

-- ---- under its bytes

apart_bytes : (bs cs ks : List ℕ) → bytes_eq bs cs ≡ false → is_eq (slice_cmp nat_cmp bs ks) ≡ true → is_eq (slice_cmp nat_cmp cs ks) ≡ false
apart_bytes bs cs ks n y = is_eq-slice_cmp cs ks ∙ nat_list_eq_equiv.symm cs ks ∙ sym (nat_list_eq_equiv.congr bs ks cs (sym (is_eq-slice_cmp bs ks) ∙ y)) ∙ n

module _ {A : Type 0} where
  pub found_keyed : (w : List ℕ) (es : List (Vec ℕ A × ℕ))
      → lookup (λ key. is_eq (slice_cmp nat_cmp w key)) (entries_by_key es) ≡ lookup (is_at (λ key. slice_cmp nat_cmp w key.items)) es
  found_keyed w [] = refl
  found_keyed w (e ∷ es) = ap (λ rest. cond (is_eq (slice_cmp nat_cmp w e.0.items)) (Some e.1) rest) (found_keyed w es)

  keeps : (eq : Vec ℕ A → Vec ℕ A → Bool) (test : Vec ℕ A → Bool) (old new : List (Vec ℕ A × ℕ)) → KeepsOthers eq test old new
      → (other : Vec ℕ A → Bool) → IsKeyTest eq other → AreApart test other → lookup other new ≡ lookup other old
  unfolding KeepsOthers
  keeps eq test old new h = h

  pub updates_keyed : (word : List ℕ) (number : Option ℕ) (old new : BTreeMap (Vec ℕ A) ℕ)
      → UpdatesBy (λ x y. slice_cmp nat_cmp x.items y.items) (λ key. slice_cmp nat_cmp word key.items) old new number
      → (q : List ℕ)
      → lookup (λ key. is_eq (slice_cmp nat_cmp q key)) (entries_by_key new.entries)
      ≡ cond (bytes_eq word q) number (lookup (λ key. is_eq (slice_cmp nat_cmp q key)) (entries_by_key old.entries))
  updates_keyed word number old new u q = by (bytes_eq word q) refl
    where
      by : (b : Bool) → bytes_eq word q ≡ b
          → lookup (λ key. is_eq (slice_cmp nat_cmp q key)) (entries_by_key new.entries)
          ≡ cond b number (lookup (λ key. is_eq (slice_cmp nat_cmp q key)) (entries_by_key old.entries))
      by true h = found_keyed q new.entries
          ∙ subst (λ w. lookup (is_at (λ key. slice_cmp nat_cmp w key.items)) new.entries ≡ number) ((bytes_decides word q).0 h) u.1
      by false h = found_keyed q new.entries
          ∙ keeps _ _ old.entries new.entries u.3 (is_at (λ key. slice_cmp nat_cmp q key.items))
          (λ x y. (eq_by_cmp_equiv nat_list_cmp_total).congr q x.items y.items) (λ key. apart_bytes word q key.items h)
          ∙ sym (found_keyed q old.entries)
