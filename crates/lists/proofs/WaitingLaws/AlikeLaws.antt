-- Those that wait for the same with the same priority, who need no keys, and how they come to have them.
use Rattle.lwp_types.specs.Choice.{better_by}
use Rattle.lwp_types.specs.CountLaws.{count-cons, one}
use Rattle.std.proofs.Common.{Bool, List, Some, [], ap, arith, cond, count_by, eqb, false, get_or, length, map, refl, suc, sym, true, zero, ℕ, ◌++◌}
use Rattle.std.proofs.Common.{◌<◌, ◌∙◌, ◌∷◌, ◌≡◌, ◌≤◌}
use Rattle.std.proofs.lemmas.Bool.{eq-eqb, le-leb, ne_eqb}
use Rattle.std.specs.List.{AllByRecursion, filter, fold, remove}
use Rattle.lists.specs.WaitingList.Entries.{AreAlike, IsFiled, IsFrontAt, IsLike, IsSortedOut, arrival_key, is_entry_for, rank_of, waiting_of}
use Rattle.lists.specs.WaitingList.Line.{is_for}
use Rattle.lists.specs.declared.waiting_list.keys.Key.{Key}
use Rattle.lists.specs.declared.waiting_list.rows.Entry.{Entry}
use Rattle.lists.specs.declared.waiting_list.rows.Waiting.{Waiting}

-- one more
pub alike_push : (es : List Entry) (e : Entry) → AreAlike es → IsLike e es → AreAlike (es ++ e ∷ [])
alike_push [] e alike like = tt
alike_push (x ∷ es) e alike like = all_push es alike
  where
    all_push : (xs : List Entry) → AllByRecursion (λ (f : Entry). (f.what ≡ x.what) × (f.prio ≡ x.prio)) xs
        → AllByRecursion (λ (f : Entry). (f.what ≡ x.what) × (f.prio ≡ x.prio)) (xs ++ e ∷ [])
    all_push [] all = (like e (omega arith), tt)
    all_push (y ∷ ys) all = (all.0, all_push ys all.1)

-- one less
alike_tail : (e : Entry) (es : List Entry) → AreAlike (e ∷ es) → AreAlike es
alike_tail e [] alike = tt
alike_tail e (x ∷ xs) alike = all_same xs alike.1
  where
    all_same : (ys : List Entry) → AllByRecursion (λ (f : Entry). (f.what ≡ e.what) × (f.prio ≡ e.prio)) ys
        → AllByRecursion (λ (f : Entry). (f.what ≡ x.what) × (f.prio ≡ x.prio)) ys
    all_same [] all = tt
    all_same (y ∷ ys) all = ((all.0.0 ∙ sym alike.0.0, all.0.1 ∙ sym alike.0.1), all_same ys all.1)

pub alike_remove : (es : List Entry) (i : ℕ) → AreAlike es → AreAlike (remove es i)
alike_remove [] zero alike = tt
alike_remove [] (suc i) alike = tt
alike_remove (e ∷ es) zero alike = alike_tail e es alike
alike_remove (e ∷ es) (suc i) alike = all_remove es i alike
  where
    all_remove : (xs : List Entry) (j : ℕ) → AllByRecursion (λ (f : Entry). (f.what ≡ e.what) × (f.prio ≡ e.prio)) xs
        → AllByRecursion (λ (f : Entry). (f.what ≡ e.what) × (f.prio ≡ e.prio)) (remove xs j)
    all_remove [] zero all = tt
    all_remove [] (suc j) all = tt
    all_remove (x ∷ xs) zero all = all.1
    all_remove (x ∷ xs) (suc j) all = (all.0, all_remove xs j all.1)

-- one that waits alone
pub alike_one : (es : List Entry) → length es ≤ 1 → AreAlike es
alike_one [] one = tt
alike_one (e ∷ []) one = tt
alike_one (e ∷ (x ∷ es)) one = absurd (omega (arith, one))

-- ---- with keys or without

no_keys : (ks : List Key) → length ks ≡ 0 → ks ≡ []
no_keys [] none = refl
no_keys (k ∷ ks) none = absurd (omega (arith, none))

pub sorted_out : (es : List Entry) (ranks arrived : List Key) → IsFiled rank_of es ranks → IsFiled arrival_key es arrived → IsSortedOut es ranks arrived
sorted_out es [] arrived ranked queued = (alike_one es (omega (arith, ranked.len)), no_keys arrived (omega (arith, queued.len, ranked.len)))
sorted_out es (k ∷ ks) arrived ranked queued = (ranked, queued)

pub still_alike : (es : List Entry) (ranks arrived : List Key) → length ranks ≡ 0 → arrived ≡ [] → AreAlike es → IsSortedOut es ranks arrived
still_alike es [] arrived none empty alike = (alike, empty)
still_alike es (k ∷ ks) arrived none empty alike = absurd (omega (arith, none))

module _ (es : List Entry) where
  pub when_alike : (ranks arrived : List Key) → length ranks ≡ 0 → IsSortedOut es ranks arrived → AreAlike es × (arrived ≡ [])
  when_alike [] arrived none sorted = sorted
  when_alike (k ∷ ks) arrived none sorted = absurd (omega (arith, none))

  pub when_filed : (ranks arrived : List Key) → (length ranks ≡ 0 → ⊥) → IsSortedOut es ranks arrived
      → IsFiled rank_of es ranks × IsFiled arrival_key es arrived
  when_filed [] arrived some sorted = absurd (some refl)
  when_filed (k ∷ ks) arrived some sorted = sorted

  pub few_keys : (ranks arrived : List Key) → IsSortedOut es ranks arrived → (length ranks ≤ length es) × (length arrived ≤ length es)
  few_keys [] arrived sorted = (omega arith, omega (arith, ap length sorted.1))
  few_keys (k ∷ ks) arrived sorted = (omega (arith, sorted.0.len), omega (arith, sorted.1.len))

-- ---- the first that came

module _ (n : ℕ) where
  stays_best : (e : Entry) (xs : List Entry) → AllByRecursion (λ (f : Entry). (f.what ≡ e.what) × (f.prio ≡ e.prio)) xs
      → fold (better_by (λ (w : Waiting). w.prio)) (Some (waiting_of e)) (filter (is_for n) (map waiting_of xs)) ≡ Some (waiting_of e)
  stays_best e [] all = refl
  stays_best e (x ∷ xs) all = by_test (stays_best e xs all.1) (eqb x.what n)
    where
      by_test : fold (better_by (λ (w : Waiting). w.prio)) (Some (waiting_of e)) (filter (is_for n) (map waiting_of xs)) ≡ Some (waiting_of e)
          → (b : Bool)
          → fold (better_by (λ (w : Waiting). w.prio)) (Some (waiting_of e))
          (cond b (waiting_of x ∷ filter (is_for n) (map waiting_of xs)) (filter (is_for n) (map waiting_of xs)))
          ≡ Some (waiting_of e)
      by_test rest false = rest
      by_test rest true = ap
          (λ c. fold (better_by (λ (w : Waiting). w.prio)) (cond c (Some (waiting_of e)) (Some (waiting_of x))) (filter (is_for n) (map waiting_of xs)))
          (le-leb x.prio e.prio (omega (arith, all.0.1)))
          ∙ rest

  pub front_at : (es : List Entry) (e : Entry) → AreAlike es → 0 < length es → e ≡ get_or es 0 e → e.what ≡ n → IsFrontAt n es 0
  front_at [] e alike some here same = absurd (omega (arith, some))
  front_at (x ∷ xs) e alike some here same =
      let is : eqb x.what n ≡ true = eq-eqb x.what n (ap (λ (y : Entry). y.what) (sym here) ∙ same) in
      record {
        best = record { within = omega arith; best = λ d. rw is (stays_best x xs alike) };
        first = record { within = omega arith; first = λ d. rw is refl };
      }

  pub front_other : (es : List Entry) (e : Entry) → AreAlike es → e ≡ get_or es 0 e → (e.what ≡ n → ⊥) → count_by (is_entry_for n) es ≡ 0
  front_other [] e alike here other = refl
  front_other (x ∷ xs) e alike here other = omega (arith, count-cons (is_entry_for n) x xs, ap one (ne_eqb x.what n away), all_other xs alike)
    where
      away : x.what ≡ n → ⊥
      away same = other (ap (λ (y : Entry). y.what) here ∙ same)

      all_other : (ys : List Entry) → AllByRecursion (λ (f : Entry). (f.what ≡ x.what) × (f.prio ≡ x.prio)) ys → count_by (is_entry_for n) ys ≡ 0
      all_other [] all = refl
      all_other (y ∷ ys) all = omega (arith, count-cons (is_entry_for n) y ys, ap one (ne_eqb y.what n (λ same. away (sym all.0.0 ∙ same))), all_other ys all.1)

  pub front_missing : (es : List Entry) → length es ≡ 0 → count_by (is_entry_for n) es ≡ 0
  front_missing [] none = refl
  front_missing (e ∷ es) none = absurd (omega (arith, none))
