-- Each change of the lists leaves them kept.
use Rattle.pod_sched.specs.Buckets.Kept.{IsKept, one_if_filled}
use Rattle.pod_sched.specs.Buckets.Marks.{Marks, mark_at}
use Rattle.pod_sched.specs.Buckets.Order.{Order, after_put_last, after_reassign, is_of_prio, prio_in}
use Rattle.lists.proofs.ChainPushes.{items_pushed_other, items_pushed_same, length-pushed}
use Rattle.lists.specs.ChainLists.{Lists, after_move_before, after_move_to_back, after_remove, before, items, with_limit, without}
use Rattle.std.proofs.Common.{Bool, List, None, Option, Some, [], ap, append-nil, arith, cond, eqb, false, get_or, get_or-set_other}
use Rattle.std.proofs.Common.{get_or-set_same, inl, inr, is_some, length, length-set, map, not, refl, replicate, set, set-set}
use Rattle.std.proofs.Common.{slice_get, sym, true, ℕ, ◌++◌, ◌%◌, ◌*◌, ◌+◌, ◌-◌, ◌/◌, ◌<◌, ◌∙◌, ◌∷◌, ◌≡◌, ◌≢◌, ◌≤◌}
use Rattle.std.proofs.lemmas.Bool.{cases_eq, cases_lt, eq-eqb, eqb-false, eqb-true, ne_eqb}
use Rattle.std.proofs.lemmas.List.{get_or-append_right, get_or-map, get_or-replicate, get_or_append_left, get_or_past}
use Rattle.std.proofs.lemmas.List.{length-append, length-map, length-replicate, set-get_or}
use Rattle.std.specs.Int.{bit_at}
use Rattle.std.specs.List.{AllByRecursion, filter, find}

-- ---- lists of lists

items_map : (f : List ℕ → List ℕ) (lists : List (List ℕ)) (i : ℕ) → i < length lists → get_or (map f lists) i [] ≡ f (get_or lists i [])
items_map f lists i inside = get_or-map f lists i [] [] inside

-- ---- filters

module _ (q : ℕ → Bool) where
  filter_without : (k : ℕ) (xs : List ℕ) → filter q (without k xs) ≡ without k (filter q xs)
  filter_without k [] = refl
  filter_without k (x ∷ xs) = by_tests (eqb x k) refl (q x) refl (filter_without k xs)
    where
      by_tests : (s : Bool) → eqb x k ≡ s → (t : Bool) → q x ≡ t → filter q (without k xs) ≡ without k (filter q xs)
          → filter q (cond (not s) (x ∷ without k xs) (without k xs)) ≡ without k (cond t (x ∷ filter q xs) (filter q xs))
      by_tests true e true f rest = rw e rest
      by_tests true e false f rest = rest
      by_tests false e true f rest = rw (e, f) (ap (λ ys. x ∷ ys) rest)
      by_tests false e false f rest = rw f rest

  without_other : (k : ℕ) (xs : List ℕ) → q k ≡ false → without k (filter q xs) ≡ filter q xs
  without_other k [] out = refl
  without_other k (x ∷ xs) out = by_test (q x) refl (without_other k xs out)
    where
      by_test : (t : Bool) → q x ≡ t → without k (filter q xs) ≡ filter q xs
          → without k (cond t (x ∷ filter q xs) (filter q xs)) ≡ cond t (x ∷ filter q xs) (filter q xs)
      by_test true f rest =
          let differs : eqb x k ≡ false = ne_eqb x k (λ same. let both : true ≡ false = sym f ∙ ap q same ∙ out in absurd (cc)) in
          rw differs (ap (λ ys. x ∷ ys) rest)
      by_test false f rest = rest

  before_other : (k o : ℕ) (xs : List ℕ) → q o ≡ false → before k o (filter q xs) ≡ filter q xs
  before_other k o [] out = refl
  before_other k o (x ∷ xs) out = by_test (q x) refl (before_other k o xs out)
    where
      by_test : (t : Bool) → q x ≡ t → before k o (filter q xs) ≡ filter q xs
          → before k o (cond t (x ∷ filter q xs) (filter q xs)) ≡ cond t (x ∷ filter q xs) (filter q xs)
      by_test true f rest =
          let differs : eqb x o ≡ false = ne_eqb x o (λ same. let both : true ≡ false = sym f ∙ ap q same ∙ out in absurd (cc)) in
          rw differs (ap (λ ys. x ∷ ys) rest)
      by_test false f rest = rest

  filter_before : (k o : ℕ) (xs : List ℕ) → q k ≡ q o → filter q (before k o xs) ≡ before k o (filter q xs)
  filter_before k o [] alike = refl
  filter_before k o (x ∷ xs) alike = by_tests (eqb x o) refl (q x) refl (filter_before k o xs alike)
    where
      by_tests : (s : Bool) → eqb x o ≡ s → (t : Bool) → q x ≡ t → filter q (before k o xs) ≡ before k o (filter q xs)
          → filter q (cond s (k ∷ x ∷ before k o xs) (x ∷ before k o xs)) ≡ before k o (cond t (x ∷ filter q xs) (filter q xs))
      by_tests true e true f rest =
          let of_k : q k ≡ true = alike ∙ ap q (sym (eqb-true x o e)) ∙ f in
          rw (of_k, f, e) (ap (λ ys. k ∷ x ∷ ys) rest)
      by_tests true e false f rest =
          let of_k : q k ≡ false = alike ∙ ap q (sym (eqb-true x o e)) ∙ f in
          rw (of_k, f) rest
      by_tests false e true f rest = rw (f, e) (ap (λ ys. x ∷ ys) rest)
      by_tests false e false f rest = rw f rest

  filter_push : (xs : List ℕ) (k : ℕ) → filter q (xs ++ k ∷ []) ≡ filter q xs ++ cond (q k) (k ∷ []) []
  filter_push [] k = refl
  filter_push (x ∷ xs) k = by_test (q x) (filter_push xs k)
    where
      by_test : (t : Bool) → filter q (xs ++ k ∷ []) ≡ filter q xs ++ cond (q k) (k ∷ []) []
          → cond t (x ∷ filter q (xs ++ k ∷ [])) (filter q (xs ++ k ∷ [])) ≡ cond t (x ∷ filter q xs) (filter q xs) ++ cond (q k) (k ∷ []) []
      by_test true rest = ap (λ ys. x ∷ ys) rest
      by_test false rest = rest

  pub first-filter : (xs : List ℕ) → slice_get (filter q xs) 0 ≡ find q xs
  first-filter [] = refl
  first-filter (x ∷ xs) = by_test (q x) (first-filter xs)
    where
      by_test : (t : Bool) → slice_get (filter q xs) 0 ≡ find q xs → slice_get (cond t (x ∷ filter q xs) (filter q xs)) 0 ≡ cond t (Some x) (find q xs)
      by_test true rest = refl
      by_test false rest = rest

  pub find_none : ((x : ℕ) → q x ≡ false) → (xs : List ℕ) → find q xs ≡ None
  find_none none [] = refl
  find_none none (x ∷ xs) = rw (none x) (find_none none xs)

filter_agree : (q r : ℕ → Bool) (xs : List ℕ) → AllByRecursion (λ x. q x ≡ r x) xs → filter q xs ≡ filter r xs
filter_agree q r [] agree = refl
filter_agree q r (x ∷ xs) agree = rw (agree.0, filter_agree q r xs agree.1) refl

pub without_twice : (k : ℕ) (xs : List ℕ) → without k (without k xs) ≡ without k xs
without_twice k [] = refl
without_twice k (x ∷ xs) = by_test (eqb x k) refl (without_twice k xs)
  where
    by_test : (t : Bool) → eqb x k ≡ t → without k (without k xs) ≡ without k xs
        → without k (cond (not t) (x ∷ without k xs) (without k xs)) ≡ cond (not t) (x ∷ without k xs) (without k xs)
    by_test true e rest = rest
    by_test false e rest = rw e (ap (λ ys. x ∷ ys) rest)

filled_push : (xs : List ℕ) (k : ℕ) → one_if_filled (xs ++ k ∷ []) ≡ 1
filled_push [] k = refl
filled_push (x ∷ xs) k = refl

-- ---- facts of each element

module _ (P : ℕ → Type 0) where
  All-without : (k : ℕ) (xs : List ℕ) → AllByRecursion P xs → AllByRecursion (λ x. P x × (x ≢ k)) (without k xs)
  All-without k [] all = tt
  All-without k (x ∷ xs) all = by_test (eqb x k) refl (All-without k xs all.1)
    where
      by_test : (t : Bool) → eqb x k ≡ t → AllByRecursion (λ x. P x × (x ≢ k)) (without k xs)
          → AllByRecursion (λ x. P x × (x ≢ k)) (cond (not t) (x ∷ without k xs) (without k xs))
      by_test true e rest = rest
      by_test false e rest = ((all.0, eqb-false x k e), rest)

  All-before : (k o : ℕ) (xs : List ℕ) → P k → AllByRecursion P xs → AllByRecursion P (before k o xs)
  All-before k o [] of_k all = tt
  All-before k o (x ∷ xs) of_k all = by_test (eqb x o) (All-before k o xs of_k all.1)
    where
      by_test : (t : Bool) → AllByRecursion P (before k o xs) → AllByRecursion P (cond t (k ∷ x ∷ before k o xs) (x ∷ before k o xs))
      by_test true rest = (of_k, (all.0, rest))
      by_test false rest = (all.0, rest)

  All-push : (xs : List ℕ) (k : ℕ) → P k → AllByRecursion P xs → AllByRecursion P (xs ++ k ∷ [])
  All-push [] k of_k all = (of_k, tt)
  All-push (x ∷ xs) k of_k all = (all.0, All-push xs k of_k all.1)

All-weaker : (P Q : ℕ → Type 0) → ((k : ℕ) → P k → Q k) → (xs : List ℕ) → AllByRecursion P xs → AllByRecursion Q xs
All-weaker P Q weaker [] all = tt
All-weaker P Q weaker (x ∷ xs) all = (weaker x all.0, All-weaker P Q weaker xs all.1)

-- ---- the run queue as it is kept

module _ (order ready : Lists) (prios marks : List ℕ) (levels : ℕ) (kept : IsKept order ready prios marks levels) where
  of_prio : ℕ → ℕ → Bool
  of_prio p k = is_of_prio prios levels p k

  prio : ℕ → ℕ
  prio k = prio_in prios levels k

  -- a list that loses no key and gains none, and its mark
  still_marked : (ready' : Lists) (marks' : List ℕ) (p n mark : ℕ) → length ready'.lists ≡ levels → Marks marks marks' n mark → p < 256
      → p ≢ n → (p < levels → items ready' p ≡ items ready p) → mark_at marks' p ≡ one_if_filled (items ready' p)
  still_marked ready' marks' p n mark lists marked p_in differs same = marked.others p p_in differs ∙ kept.marked p p_in
      ∙ ap one_if_filled (elim (cases_lt p levels) [
        | inl inside ↦ sym (same inside)
        | inr past ↦ get_or_past ready.lists p [] (omega (arith, kept.ready_lists)) ∙ sym (get_or_past ready'.lists p [] (omega (arith, lists)))
      ])

  module _ (k : ℕ) (is_key : levels ≤ k) where
    other_prio : (p : ℕ) → p ≢ prio_in prios levels k → is_of_prio prios levels p k ≡ false
    other_prio p differs = ne_eqb (prio_in prios levels k) p (λ same. differs (sym same))

    order_taken : items (after_remove order k) 0 ≡ without k (items order 0)
    order_taken = items_map (without k) order.lists 0 (omega (arith, kept.some, kept.order_lists))

    ready_taken : (p : ℕ) → p < levels → items (after_remove ready k) p ≡ without k (items ready p)
    ready_taken p p_in = items_map (without k) ready.lists p (omega (arith, kept.ready_lists))

    sorted_taken : (p : ℕ) → p < levels → items (after_remove ready k) p ≡ filter (is_of_prio prios levels p) (without k (items order 0))
    sorted_taken p p_in = ready_taken p p_in ∙ ap (without k) (kept.sorted p p_in) ∙ sym (filter_without (is_of_prio prios levels p) k (items order 0))

    keys_taken : AllByRecursion (λ x. (levels ≤ x) × (x ≢ k)) (without k (items order 0))
    keys_taken = All-without (λ x. levels ≤ x) k (items order 0) kept.are_keys

    module _ (marks' : List ℕ) (words : length marks' ≡ 4)
        (marked : Marks marks marks' (prio_in prios levels k) (one_if_filled (items (after_remove ready k) (prio_in prios levels k)))) where
      pub IsKept-taken : IsKept (after_remove order k) (after_remove ready k) prios marks' levels
      IsKept-taken = record {
        some = kept.some;
        most = kept.most;
        order_lists = length-map order.lists (without k) ∙ kept.order_lists;
        ready_lists = length-map ready.lists (without k) ∙ kept.ready_lists;
        order_room = kept.order_room;
        ready_room = kept.ready_room;
        words = words;
        low = kept.low;
        are_keys = rw order_taken (All-weaker (λ x. (levels ≤ x) × (x ≢ k)) (λ x. levels ≤ x) (λ x both. both.0) (without k (items order 0)) keys_taken);
        sorted = λ p p_in. sorted_taken p p_in ∙ ap (filter (is_of_prio prios levels p)) (sym order_taken);
        marked = λ p p_in. elim (cases_eq p (prio_in prios levels k)) [
          | inl same ↦ rw same marked.here
          | inr differs ↦ still_marked (after_remove ready k) marks' p _ _ (length-map ready.lists (without k) ∙ kept.ready_lists) marked p_in differs
              (λ inside. ready_taken p inside ∙ ap (without k) (kept.sorted p inside)
              ∙ without_other (is_of_prio prios levels p) k (items order 0) (other_prio p differs) ∙ sym (kept.sorted p inside))
        ];
      }

    module _ (o : ℕ) (alike : prio_in prios levels k ≡ prio_in prios levels o) where
      order_before : items (after_move_before order k o) 0 ≡ before k o (without k (items order 0))
      order_before =
          items_map (before k o) (map (without k) order.lists) 0 (omega (arith, kept.some, kept.order_lists, length-map order.lists (without k)))
          ∙ ap (before k o) order_taken

      ready_before : (p : ℕ) → p < levels → items (after_move_before ready k o) p ≡ before k o (items (after_remove ready k) p)
      ready_before p p_in = items_map (before k o) (map (without k) ready.lists) p (omega (arith, kept.ready_lists, length-map ready.lists (without k)))

      lists_before : (s : Lists) → length (after_move_before s k o).lists ≡ length s.lists
      lists_before s = length-map (map (without k) s.lists) (before k o) ∙ length-map s.lists (without k)

      module _ (marks' : List ℕ) (words : length marks' ≡ 4)
          (marked : Marks marks marks' (prio_in prios levels k) (one_if_filled (items (after_move_before ready k o) (prio_in prios levels k)))) where
        pub IsKept-before : IsKept (after_move_before order k o) (after_move_before ready k o) prios marks' levels
        IsKept-before = record {
          some = kept.some;
          most = kept.most;
          order_lists = lists_before order ∙ kept.order_lists;
          ready_lists = lists_before ready ∙ kept.ready_lists;
          order_room = kept.order_room;
          ready_room = kept.ready_room;
          words = words;
          low = kept.low;
          are_keys = rw order_before (All-before (λ x. levels ≤ x) k o (without k (items order 0)) is_key
              (All-weaker (λ x. (levels ≤ x) × (x ≢ k)) (λ x. levels ≤ x) (λ x both. both.0) (without k (items order 0)) keys_taken));
          sorted = λ p p_in.
              ready_before p p_in ∙ ap (before k o) (sorted_taken p p_in)
              ∙ sym (filter_before (is_of_prio prios levels p) k o (without k (items order 0)) (ap (λ n. eqb n p) alike))
              ∙ ap (filter (is_of_prio prios levels p)) (sym order_before);
          marked = λ p p_in. elim (cases_eq p (prio_in prios levels k)) [
            | inl same ↦ rw same marked.here
            | inr differs ↦ still_marked (after_move_before ready k o) marks' p _ _ (lists_before ready ∙ kept.ready_lists) marked p_in differs
                (λ inside.
                ready_before p inside ∙ ap (before k o) (sorted_taken p inside)
                ∙ before_other (is_of_prio prios levels p) k o (without k (items order 0)) (ap (λ n. eqb n p) (sym alike) ∙ other_prio p differs)
                ∙ filter_without (is_of_prio prios levels p) k (items order 0)
                ∙ without_other (is_of_prio prios levels p) k (items order 0) (other_prio p differs) ∙ sym (kept.sorted p inside))
          ];
        }

    -- a key that is not in the run queue is given a priority
    module _ (new : ℕ) (k_in : k < levels + length prios) (low : new < levels) (gone : without k (items order 0) ≡ items order 0) where
      agree : (p x : ℕ) → levels ≤ x → x ≢ k → is_of_prio (set prios (k - levels) new) levels p x ≡ is_of_prio prios levels p x
      agree p x x_key differs = ap (λ n. eqb n p) (get_or-set_other prios (k - levels) (x - levels) new 0 (λ same. differs (omega (arith, same))))

      same_filter : (p : ℕ) → filter (is_of_prio (set prios (k - levels) new) levels p) (items order 0) ≡ filter (is_of_prio prios levels p) (items order 0)
      same_filter p = filter_agree _ _ (items order 0)
          (All-weaker (λ x. (levels ≤ x) × (x ≢ k)) _ (λ x both. agree p x both.0 both.1) (items order 0) (rw gone at keys_taken))

      pub IsKept-reassigned : IsKept order ready (set prios (k - levels) new) marks levels
      IsKept-reassigned = record {
        some = kept.some;
        most = kept.most;
        order_lists = kept.order_lists;
        ready_lists = kept.ready_lists;
        order_room = rw (length-set prios (k - levels) new) kept.order_room;
        ready_room = rw (length-set prios (k - levels) new) kept.ready_room;
        words = kept.words;
        low = λ i. elim (cases_eq i (k - levels)) [
          | inl same ↦ rw (same, get_or-set_same prios (k - levels) new 0 (omega arith)) low
          | inr differs ↦ rw (get_or-set_other prios (k - levels) i new 0 differs) (kept.low i)
        ];
        are_keys = kept.are_keys;
        sorted = λ p p_in. kept.sorted p p_in ∙ sym (same_filter p);
        marked = kept.marked;
      }

    -- a key of this priority already becomes the last, wherever it was
    module _ (own : ℕ) (low : own < levels) (same : prio_in prios levels k ≡ own) where
      order_again : items (after_move_to_back order 0 k) 0 ≡ without k (items order 0) ++ k ∷ []
      order_again =
          items_pushed_same 0 k (map (without k) order.lists) (omega (arith, kept.some, kept.order_lists, length-map order.lists (without k)))
          ∙ ap (λ xs. xs ++ k ∷ []) order_taken

      ready_again_same : items (after_move_to_back ready own k) own ≡ without k (items ready own) ++ k ∷ []
      ready_again_same =
          items_pushed_same own k (map (without k) ready.lists) (omega (arith, kept.ready_lists, length-map ready.lists (without k)))
          ∙ ap (λ xs. xs ++ k ∷ []) (ready_taken own low)

      away : (p : ℕ) → p ≢ own → is_of_prio prios levels p k ≡ false
      away p differs = other_prio p (λ is. differs (is ∙ same))

      ready_again_other : (p : ℕ) → p < levels → p ≢ own → items (after_move_to_back ready own k) p ≡ items ready p
      ready_again_other p p_in differs =
          items_pushed_other own k p (map (without k) ready.lists) differs
          ∙ ready_taken p p_in ∙ ap (without k) (kept.sorted p p_in)
          ∙ without_other (is_of_prio prios levels p) k (items order 0) (away p differs) ∙ sym (kept.sorted p p_in)

      lists_again : (s : Lists) (l : ℕ) → length (after_move_to_back s l k).lists ≡ length s.lists
      lists_again s l = length-pushed l k (map (without k) s.lists) ∙ length-map s.lists (without k)

      sorted_again : (p : ℕ) → p < levels → items (after_move_to_back ready own k) p ≡ filter (is_of_prio prios levels p) (without k (items order 0) ++ k ∷ [])
      sorted_again p p_in =
          let right = filter_push (is_of_prio prios levels p) (without k (items order 0)) k in
          elim (cases_eq p own) [
            | inl is ↦
                let here : is_of_prio prios levels p k ≡ true = eq-eqb _ p (same ∙ sym is) in
                ap (λ n. items (after_move_to_back ready own k) n) is ∙ ready_again_same ∙ ap (λ n. without k (items ready n) ++ k ∷ []) (sym is)
                ∙ ap (λ xs. xs ++ k ∷ []) (sym (ready_taken p p_in) ∙ sorted_taken p p_in)
                ∙ sym (right ∙ ap (λ t. filter (is_of_prio prios levels p) (without k (items order 0)) ++ cond t (k ∷ []) []) here)
            | inr differs ↦
                items_pushed_other own k p (map (without k) ready.lists) differs
                ∙ sorted_taken p p_in
                ∙ sym (right ∙ ap (λ t. filter (is_of_prio prios levels p) (without k (items order 0)) ++ cond t (k ∷ []) []) (away p differs) ∙ append-nil _)
          ]

      module _ (marks' : List ℕ) (words : length marks' ≡ 4) (marked : Marks marks marks' own 1) where
        pub IsKept-again : IsKept (after_move_to_back order 0 k) (after_move_to_back ready own k) prios marks' levels
        IsKept-again = record {
          some = kept.some;
          most = kept.most;
          order_lists = lists_again order 0 ∙ kept.order_lists;
          ready_lists = lists_again ready own ∙ kept.ready_lists;
          order_room = kept.order_room;
          ready_room = kept.ready_room;
          words = words;
          low = kept.low;
          are_keys = rw order_again (All-push (λ x. levels ≤ x) (without k (items order 0)) k is_key
              (All-weaker (λ x. (levels ≤ x) × (x ≢ k)) (λ x. levels ≤ x) (λ x both. both.0) (without k (items order 0)) keys_taken));
          sorted = λ p p_in. sorted_again p p_in ∙ ap (filter (is_of_prio prios levels p)) (sym order_again);
          marked = λ p p_in. elim (cases_eq p own) [
            | inl is ↦ rw is (marked.here ∙ sym (ap one_if_filled ready_again_same ∙ filled_push (without k (items ready own)) k))
            | inr differs
                ↦ still_marked (after_move_to_back ready own k) marks' p _ _ (lists_again ready own ∙ kept.ready_lists) marked p_in differs
                (λ inside. ready_again_other p inside differs)
          ];
        }

      -- what a contract sees after that
      pub view_again : ◌≡◌ {A = Order} (record { levels = levels; order = items (after_move_to_back order 0 k) 0; prios = prios })
          (after_put_last (record { levels = levels; order = items order 0; prios = prios }) k own)
      view_again = rw (order_again, sym same, set-get_or prios (k - levels) 0) refl

-- a key that was reassigned is put last as if it had been put so at once
pub last_reassigned : (v : Order) (k p : ℕ) → after_put_last (after_reassign v k p) k p ≡ after_put_last v k p
last_reassigned v k p = rw (without_twice k v.order, set-set v.prios (k - v.levels) p p) refl

-- ---- the choice

module _ (order ready : Lists) (prios marks : List ℕ) (levels : ℕ) (kept : IsKept order ready prios marks levels) where
  pub first_sorted : (p : ℕ) → p < levels → slice_get (items ready p) 0 ≡ find (is_of_prio prios levels p) (items order 0)
  first_sorted p inside = ap (λ xs. slice_get xs 0) (kept.sorted p inside) ∙ first-filter (is_of_prio prios levels p) (items order 0)

  pub first_past : (p : ℕ) → levels ≤ p → find (is_of_prio prios levels p) (items order 0) ≡ None
  first_past p past = find_none (is_of_prio prios levels p) (λ x. ne_eqb _ p (λ same. absurd (omega (arith, same, kept.low (x - levels))))) (items order 0)

  -- a word of the marks says which priorities have anybody
  pub word_says : (at i : ℕ) → at < 4 → i < 64
      → bit_at (get_or marks at 0) i ≡ cond (is_some (find (is_of_prio prios levels (64 * at + i)) (items order 0))) 1 0
  word_says at i at_in i_in =
      let word : (64 * at + i) / 64 ≡ at = omega arith in
      let bit : (64 * at + i) % 64 ≡ i = omega arith in
      let here : bit_at (get_or marks at 0) i ≡ mark_at marks (64 * at + i) = rw (word, bit) refl in
      here ∙ kept.marked (64 * at + i) (omega arith) ∙ elim (cases_lt (64 * at + i) levels) [
        | inl inside ↦ ap (λ (o : Option ℕ). cond (is_some o) 1 0) (first_sorted (64 * at + i) inside)
        | inr past
            ↦ ap one_if_filled (get_or_past ready.lists (64 * at + i) [] (omega (arith, kept.ready_lists)))
            ∙ sym (ap (λ (o : Option ℕ). cond (is_some o) 1 0) (first_past (64 * at + i) past))
      ]

  -- more keys
  module _ (n keys : ℕ) (more : n ≡ keys - length prios) where
    low_more : (i : ℕ) → ◌≡◌ {A = ℕ} (get_or (prios ++ replicate n 0) i 0) (get_or prios i 0)
    low_more i = elim (cases_lt i (length prios)) [
      | inl inside ↦ get_or_append_left prios (replicate n 0) 0 i inside
      | inr past ↦ get_or-append_right prios (replicate n 0) (length prios) i 0 refl past ∙ zeros (i - length prios) ∙ sym (get_or_past prios i 0 past)
    ]
      where
        zeros : (j : ℕ) → ◌≡◌ {A = ℕ} (get_or (replicate n 0) j 0) 0
        zeros j = elim (cases_lt j n) [
          | inl inside ↦ get_or-replicate n j 0 0 inside
          | inr past ↦ get_or_past (replicate n 0) j 0 (omega (arith, length-replicate {A = ℕ} n 0))
        ]

    pub IsKept-more : length prios ≤ keys → IsKept (with_limit order (levels + keys)) (with_limit ready (levels + keys)) (prios ++ replicate n 0) marks levels
    IsKept-more longer = record {
      some = kept.some;
      most = kept.most;
      order_lists = kept.order_lists;
      ready_lists = kept.ready_lists;
      order_room = omega (arith, length-append prios (replicate n 0), length-replicate {A = ℕ} n 0);
      ready_room = omega (arith, length-append prios (replicate n 0), length-replicate {A = ℕ} n 0);
      words = kept.words;
      low = λ i. rw (low_more i) (kept.low i);
      are_keys = kept.are_keys;
      sorted = λ p p_in. kept.sorted p p_in ∙ filter_all _ _ (λ x. ap (λ m. eqb m p) (sym (low_more (x - levels)))) (items order 0);
      marked = kept.marked;
    }
      where
        filter_all : (q r : ℕ → Bool) → ((x : ℕ) → q x ≡ r x) → (xs : List ℕ) → filter q xs ≡ filter r xs
        filter_all q r same [] = refl
        filter_all q r same (x ∷ xs) = rw (same x, filter_all q r same xs) refl
