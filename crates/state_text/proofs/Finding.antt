-- What is found in a list by its key, once, and one by one.
use Rattle.lwp_types.specs.Agents.{event_agents, is_armed, is_for}
use Rattle.lwp_types.specs.declared.rows.AgentRow.{AgentRow}
use Rattle.state_text.specs.Tables.{AreEventKeys}
use Rattle.state_text.specs.declared.turns.EventKeys.{EventKeys}
use Rattle.lwp_types.specs.State.{is_empty, is_number, is_thread, thread_of}
use Rattle.snapshots.specs.Copies.{row_in, state_in}
use Rattle.snapshots.specs.declared.pod.StateCopy.{StateCopy}
use Rattle.snapshots.specs.declared.pod.ThreadCopy.{ThreadCopy}
use Rattle.state_text.specs.Waiting.{named_thread}
use Rattle.state_text.specs.Keys.{IsAbsent, IsNext, IsPlace, key_at}
use Rattle.std.proofs.Common.{Bool, List, None, Option, Some, [], ap, arith, cond, drop, eqb, false, get_or, length}
use Rattle.std.proofs.Common.{map, not, refl, suc, sym, true, zero, ℕ, ◌++◌, ◌+◌, ◌<◌, ◌∙◌, ◌∷◌, ◌≡◌, ◌≤◌, ◌&&◌}
use Rattle.std.proofs.lemmas.Bool.{eq-eqb, false≢true}
use Rattle.std.proofs.lemmas.List.{append-nil, append_assoc, get_or-map, length-map}
use Rattle.std.specs.List.{filter, find, flat_map, list_all}
use Rattle.std.specs.Prelude.{is_some, option_and_then, option_map}

-- of those from here on none has the key
none_passes : {X : Type 0} (f : X → ℕ) (key : ℕ) (xs : List X) (from : ℕ) → IsAbsent (map f xs) key from (length (map f xs))
    → filter (λ x. eqb (f x) key) (drop from xs) ≡ []
none_passes f key [] zero none = refl
none_passes f key [] (suc from) none = refl
none_passes f key (x ∷ xs) zero none =
    rw (none 0 (omega arith) (omega arith)) (none_passes f key xs zero (λ j ge lt. none (suc j) (omega arith) (omega (arith, lt))))
none_passes f key (x ∷ xs) (suc from) none = none_passes f key xs from (λ j ge lt. none (suc j) (omega (arith, ge)) (omega (arith, lt)))

module _ {X : Type 0} (p : X → Bool) (d : X) where
  -- of those from here on this is the first that passes
  first_passes : (xs : List X) (from i : ℕ) → from ≤ i → i < length xs → p (get_or xs i d) ≡ true
      → ((j : ℕ) → from ≤ j → j < i → p (get_or xs j d) ≡ false) → filter p (drop from xs) ≡ get_or xs i d ∷ filter p (drop (suc i) xs)
  first_passes [] from i le lt passes none = absurd (omega (arith, lt))
  first_passes (x ∷ xs) zero zero le lt passes none = rw passes refl
  first_passes (x ∷ xs) zero (suc i) le lt passes none = rw (none 0 (omega arith) (omega arith))
      (first_passes xs zero i (omega arith) (omega (arith, lt)) passes (λ j ge less. none (suc j) (omega arith) (omega (arith, less))))
  first_passes (x ∷ xs) (suc from) zero le lt passes none = absurd (omega (arith, le))
  first_passes (x ∷ xs) (suc from) (suc i) le lt passes none =
      first_passes xs from i (omega (arith, le)) (omega (arith, lt)) passes (λ j ge less. none (suc j) (omega (arith, ge)) (omega (arith, less)))

-- what is found is the first of those that pass
abbrev first_of : {X : Type 0} → List X → Option X
first_of [] = None
first_of (x ∷ xs) = Some x

find_first : {X : Type 0} (p : X → Bool) (xs : List X) → find p xs ≡ first_of (filter p xs)
find_first p [] = refl
find_first p (x ∷ xs) = by_test (p x) (find_first p xs)
  where
    by_test : (b : Bool) → find p xs ≡ first_of (filter p xs) → cond b (Some x) (find p xs) ≡ first_of (cond b (x ∷ filter p xs) (filter p xs))
    by_test true rest = refl
    by_test false rest = rest

module _ {X : Type 0} (f : X → ℕ) (xs : List X) (keys : List ℕ) (same : keys ≡ map f xs) (key from : ℕ) where
  pub key_of : (j : ℕ) (d : X) → j < length xs → key_at keys j ≡ f (get_or xs j d)
  key_of j d lt = ap (λ ks. key_at ks j) same ∙ get_or-map f xs j d 0 lt

  pub count : length keys ≡ length xs
  count = ap length same ∙ length-map xs f

  pub none_more : IsAbsent keys key from (length keys) → filter (λ x. eqb (f x) key) (drop from xs) ≡ []
  none_more absent = none_passes f key xs from (rw same at absent)

  pub next_there : (d : X) (i : ℕ) → IsPlace keys key from i
      → filter (λ x. eqb (f x) key) (drop from xs) ≡ get_or xs i d ∷ filter (λ x. eqb (f x) key) (drop (i + 1) xs)
  next_there d i place = let on : suc i ≡ i + 1 = omega arith in first_passes (λ x. eqb (f x) key) d xs from i place.least (omega (arith, place.within, count))
      (eq-eqb (f (get_or xs i d)) key (sym (key_of i d (omega (arith, place.within, count))) ∙ place.here))
      (λ j ge lt. ap (λ k. eqb k key) (sym (key_of j d (omega (arith, lt, place.within, count)))) ∙ place.absent j ge lt)
      ∙ ap (λ n. get_or xs i d ∷ filter (λ x. eqb (f x) key) (drop n xs)) on

  pub place_there : (i : ℕ) → IsPlace keys key from i → i < length xs
  place_there i place = omega (arith, place.within, count)

module _ {X : Type 0} (f : X → ℕ) (xs : List X) (keys : List ℕ) (same : keys ≡ map f xs) (key : ℕ) where
  pub found : (d : X) (i : ℕ) → IsPlace keys key 0 i → find (λ x. eqb (f x) key) xs ≡ Some (get_or xs i d)
  found d i place = find_first (λ x. eqb (f x) key) xs ∙ ap first_of (next_there f xs keys same key 0 d i place)

  pub not_found : IsAbsent keys key 0 (length keys) → find (λ x. eqb (f x) key) xs ≡ None
  not_found absent = find_first (λ x. eqb (f x) key) xs ∙ ap first_of (none_more f xs keys same key 0 absent)

  pub is_found : (i : ℕ) → IsPlace keys key 0 i → is_some (find (λ x. eqb (f x) key) xs) ≡ true
  is_found i place = by_list xs (λ d. found d i place) (place_there f xs keys same key 0 i place)
    where
      by_list : (ys : List X) → ((d : X) → find (λ x. eqb (f x) key) xs ≡ Some (get_or xs i d)) → i < length ys → is_some (find (λ x. eqb (f x) key) xs) ≡ true
      by_list [] at lt = absurd (omega (arith, lt))
      by_list (y ∷ ys) at lt = ap is_some (at y)

module _ {X : Type 0} (f : X → ℕ) (text : X → List ℕ) (xs : List X) (keys : List ℕ) (same : keys ≡ map f xs) (key from : ℕ)
    (out end : List ℕ) (all : out ++ flat_map text (filter (λ x. eqb (f x) key) (drop from xs)) ≡ end) where
  -- one more is told
  pub tell_more : (i : ℕ) (d : X) (next : List ℕ) → IsPlace keys key from i → next ≡ out ++ text (get_or xs i d)
      → next ++ flat_map text (filter (λ x. eqb (f x) key) (drop (i + 1) xs)) ≡ end
  tell_more i d next place put =
      let rest = filter (λ x. eqb (f x) key) (drop (i + 1) xs) in
      rw put (append_assoc out (text (get_or xs i d)) (flat_map text rest)
      ∙ ap (λ l. out ++ flat_map text l) (sym (next_there f xs keys same key from d i place)) ∙ all)

  -- there is no other
  pub tell_all : IsAbsent keys key from (length keys) → out ≡ end
  tell_all absent = sym (append-nil out) ∙ ap (λ l. out ++ flat_map text l) (sym (none_more f xs keys same key from absent)) ∙ all

-- a row is found by a test that its number alone decides
module _ {X Y : Type 0} (p : Y → Bool) (q : X → Bool) (g : X → Y) (same : (x : X) → p (g x) ≡ q x) where
  pub find_among : (xs : List X) → find p (map g xs) ≡ option_map g (find q xs)
  find_among [] = refl
  find_among (x ∷ xs) = by_tests (p (g x)) (q x) (same x) (find_among xs)
    where
      by_tests : (a b : Bool) → a ≡ b → find p (map g xs) ≡ option_map g (find q xs)
          → cond a (Some (g x)) (find p (map g xs)) ≡ option_map g (cond b (Some x) (find q xs))
      by_tests true true e rest = refl
      by_tests true false e rest = absurd (false≢true (sym e))
      by_tests false true e rest = absurd (false≢true e)
      by_tests false false e rest = rest

-- threads by their numbers
module _ (copy : StateCopy) (keys : List ℕ) (same : keys ≡ map (λ (row : ThreadCopy). row.number) copy.threads) (t : ℕ) where
  among : thread_of (state_in copy) t ≡ option_map row_in (find (λ (row : ThreadCopy). eqb row.number t) copy.threads)
  among = find_among (is_number t) (λ (row : ThreadCopy). eqb row.number t) row_in (λ row. refl) copy.threads

  pub thread_found : (d : ThreadCopy) (i : ℕ) → IsPlace keys t 0 i → thread_of (state_in copy) t ≡ Some (row_in (get_or copy.threads i d))
  thread_found d i place = among ∙ ap (option_map row_in) (found (λ (row : ThreadCopy). row.number) copy.threads keys same t d i place)

  pub thread_missing : IsAbsent keys t 0 (length keys) → thread_of (state_in copy) t ≡ None
  thread_missing absent = among ∙ ap (option_map row_in) (not_found (λ (row : ThreadCopy). row.number) copy.threads keys same t absent)

  is_there : (i : ℕ) → IsPlace keys t 0 i → is_thread (state_in copy) t ≡ true
  is_there i place = ap is_some among
      ∙ kept (find (λ (row : ThreadCopy). eqb row.number t) copy.threads) (is_found (λ (row : ThreadCopy). row.number) copy.threads keys same t i place)
    where
      kept : (o : Option ThreadCopy) → is_some o ≡ true → is_some (option_map row_in o) ≡ true
      kept None h = h
      kept (Some row) h = refl

  pub named_there : (from : Option ℕ) → from ≡ Some t → (i : ℕ) → IsPlace keys t 0 i → Some t ≡ named_thread (state_in copy) from
  named_there from e i place = sym (ap (named_thread (state_in copy)) e ∙ ap (λ b. cond b (Some t) None) (is_there i place))

  pub named_missing : (from : Option ℕ) → from ≡ Some t → IsAbsent keys t 0 (length keys) → None ≡ named_thread (state_in copy) from
  named_missing from e absent = sym (ap (named_thread (state_in copy)) e ∙ ap (λ row. cond (is_some row) (Some t) None) (thread_missing absent))

-- a key that somebody has, and one that nobody has
module _ {X : Type 0} (f : X → ℕ) (xs : List X) (keys : List ℕ) (same : keys ≡ map f xs) (key : ℕ) where
  pub has_some : (i : ℕ) → IsPlace keys key 0 i → is_empty (filter (λ x. eqb (f x) key) xs) ≡ false
  has_some i place = by_list xs (λ d. next_there f xs keys same key 0 d i place) (place_there f xs keys same key 0 i place)
    where
      by_list : (ys : List X) → ((d : X) → filter (λ x. eqb (f x) key) xs ≡ get_or xs i d ∷ filter (λ x. eqb (f x) key) (drop (i + 1) xs))
          → i < length ys → is_empty (filter (λ x. eqb (f x) key) xs) ≡ false
      by_list [] at lt = absurd (omega (arith, lt))
      by_list (y ∷ ys) at lt = ap is_empty (at y)

  pub has_none : IsAbsent keys key 0 (length keys) → filter (λ x. eqb (f x) key) xs ≡ []
  has_none absent = none_more f xs keys same key 0 absent

-- those that pass both tests
both : {X : Type 0} (p q : X → Bool) (xs : List X) → filter p (filter q xs) ≡ filter q (filter p xs)
both p q [] = refl
both p q (x ∷ xs) = by_tests (p x) (q x) refl refl (both p q xs)
  where
    by_tests : (a b : Bool) → p x ≡ a → q x ≡ b → filter p (filter q xs) ≡ filter q (filter p xs)
        → filter p (cond b (x ∷ filter q xs) (filter q xs)) ≡ filter q (cond a (x ∷ filter p xs) (filter p xs))
    by_tests true true e f rest = rw (e, f) (ap (λ l. x ∷ l) rest)
    by_tests true false e f rest = rw f rest
    by_tests false true e f rest = rw e rest
    by_tests false false e f rest = rest

-- none fails exactly where none passes
all_not : {X : Type 0} (q : X → Bool) (xs : List X) → list_all (λ x. not (q x)) xs ≡ is_empty (filter q xs)
all_not q [] = refl
all_not q (x ∷ xs) = by_test (q x) (all_not q xs)
  where
    by_test : (b : Bool) → list_all (λ y. not (q y)) xs ≡ is_empty (filter q xs)
        → not b && list_all (λ y. not (q y)) xs ≡ is_empty (cond b (x ∷ filter q xs) (filter q xs))
    by_test true rest = refl
    by_test false rest = rest

-- whether an event is armed, by the events of all agents and of those that hold a message
module _ (agents : List AgentRow) (keys : EventKeys) (are : AreEventKeys agents keys) (e : ℕ) where
  armed_is : is_armed agents e ≡ not (is_empty (event_agents agents e)) && is_empty (filter (is_for e) (filter (λ (row : AgentRow). row.holding) agents))
  armed_is = ap (λ b. not (is_empty (event_agents agents e)) && b)
      (all_not (λ (row : AgentRow). row.holding) (event_agents agents e) ∙ ap is_empty (sym (both (is_for e) (λ (row : AgentRow). row.holding) agents)))

  pub unarmed : IsAbsent keys.all e 0 (length keys.all) → false ≡ is_armed agents e
  unarmed absent = sym (armed_is
      ∙ ap (λ l. not (is_empty l) && is_empty (filter (is_for e) (filter (λ (row : AgentRow). row.holding) agents)))
      (has_none (λ (row : AgentRow). row.event) agents keys.all are.all e absent))

  pub armed_by : (i : ℕ) → IsPlace keys.all e 0 i → (b : Bool)
      → is_empty (filter (is_for e) (filter (λ (row : AgentRow). row.holding) agents)) ≡ b → b ≡ is_armed agents e
  armed_by i place b is = sym (armed_is
      ∙ ap (λ c. not c && is_empty (filter (is_for e) (filter (λ (row : AgentRow). row.holding) agents)))
      (has_some (λ (row : AgentRow). row.event) agents keys.all are.all e i place)
      ∙ is)

  pub none_holds : IsAbsent keys.holding e 0 (length keys.holding) → is_empty (filter (is_for e) (filter (λ (row : AgentRow). row.holding) agents)) ≡ true
  none_holds absent = ap is_empty (has_none (λ (row : AgentRow). row.event) (filter (λ (row : AgentRow). row.holding) agents) keys.holding are.holding e absent)

  pub some_holds : (j : ℕ) → IsPlace keys.holding e 0 j → is_empty (filter (is_for e) (filter (λ (row : AgentRow). row.holding) agents)) ≡ false
  some_holds j place = has_some (λ (row : AgentRow). row.event) (filter (λ (row : AgentRow). row.holding) agents) keys.holding are.holding e j place
