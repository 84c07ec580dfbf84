-- Each session whose lines keep coming ends, where none is stuck and none goes on for ever.
use Rattle.event_gate.specs.Clients.{of}
use Rattle.lwp_explore.proofs.WayLaws.{Way, is_done}
use Rattle.lwp_explore.proofs.Played.{CallStep, TakeStep, call_is, some_is, step_is, take_is}
use Rattle.lwp_explore.specs.Cores.{Step, World, after, call_made, calls_at, count_at, first_core, steps_at, takes_at, with_taken}
use Rattle.lwp_explore.specs.Endings.{AreEnded, EndsListed, IsOn, LinesKeepComing, LongSession, SessionsEnd, is_over}
use Rattle.lwp_explore.specs.Ends.{IsSearched, Searched}
use Rattle.lwp_explore.specs.Kinds.{halt_of, has_left, only_call, only_calls}
use Rattle.lwp_explore.specs.declared.kinds.End.TheVariants as end
use Rattle.lwp_explore.specs.declared.kinds.Kind.{Kind}
use Rattle.pod_events.specs.Events.{has_turn}
use Rattle.search.proofs.Walks.{walk_push}
use Rattle.search.specs.Found.{Has}
use Rattle.search.specs.Moves.{walk}
use Rattle.session_cores.specs.Core.{Core}
use Rattle.std.proofs.Common.{Bool, List, None, Option, Some, [], ap, arith, eqb, false, inl, inr, length, length-append, map, not}
use Rattle.std.proofs.Common.{refl, slice_get, subst, suc, sym, true, zero, ℕ, ◌++◌, ◌+◌, ◌<◌, ◌∙◌, ◌∷◌, ◌≡◌, ◌≢◌, ◌⊎◌, ◌≤◌}
use Rattle.std.proofs.lemmas.Bool.{cases_lt, false≢true, ne_eqb}
use Rattle.std.proofs.lemmas.List.{get_or-set_other, get_or-set_same, length-replicate, length-set}
use Rattle.std.specs.Prelude.{MatchBool, if◌then◌else◌, is_some, option_and_then, slice_index_or, ◌&&◌, ◌-◌, ◌==◌}
use Rattle.trace_text.specs.declared.ends.Halt.{Halt}
use Rattle.trace_text.specs.declared.ends.Halt.TheVariants as halt

-- ---- lists and numbers

module _ {A : Type 0} where
  inside : (xs : List A) (i : ℕ) (x : A) → slice_get xs i ≡ Some x → i < length xs
  inside [] i x h = absurd cc
  inside (y ∷ xs) zero x h = omega arith
  inside (y ∷ xs) (suc i) x h = omega (arith, inside xs i x h)

  none_at : (i : ℕ) (x : A) → slice_get [] i ≡ Some x → ⊥
  none_at i x h = absurd cc

module _ {A C : Type 0} (f : A → C) where
  -- at a place of the first part
  first_part : (xs ys : List A) (i : ℕ) (y : C) → i < length xs → slice_get (map f (xs ++ ys)) i ≡ Some y → slice_get (map f (xs ++ [])) i ≡ Some y
  first_part [] ys i y low h = absurd (omega (arith, low))
  first_part (x ∷ xs) ys zero y low h = h
  first_part (x ∷ xs) ys (suc i) y low h = first_part xs ys i y (omega (arith, low)) h

  -- at a place of the other part
  other_part : (xs ys : List A) (i : ℕ) (y : C) → length xs ≤ i → slice_get (map f (xs ++ ys)) i ≡ Some y → slice_get (map f ys) (i - length xs) ≡ Some y
  other_part [] ys i y high h = let same : i - 0 ≡ i = omega arith in ap (slice_get (map f ys)) same ∙ h
  other_part (x ∷ xs) ys zero y high h = absurd (omega (arith, high))
  other_part (x ∷ xs) ys (suc i) y high h =
      let same : suc i - suc (length xs) ≡ i - length xs = omega (arith, high) in
      ap (slice_get (map f ys)) same ∙ other_part xs ys i y (omega (arith, high)) h

some_there : (x : ℕ) → not (eqb x 0) ≡ true → 0 < x
some_there zero h = absurd (false≢true h)
some_there (suc x) h = omega arith

none_there : (x : ℕ) → not (eqb x 0) ≡ false → (x == 0) ≡ true
none_there zero h = refl
none_there (suc x) h = absurd (false≢true (sym h ∙ ap not (ne_eqb (suc x) 0 (λ e. omega (arith, e)))))

-- ---- lines left

module _ {B : Type 0} (world : World B) where
  -- how many lines of clients with these events are left, counted from c
  abbrev sum_left : List ℕ → ℕ → List ℕ → ℕ
  sum_left taken c [] = 0
  sum_left taken c (e ∷ events) = (length (of c world.posts) - count_at taken c) + sum_left taken (c + 1) events

  same_count : (taken : List ℕ) (k c : ℕ) → c ≢ k → count_at (with_taken taken k) c ≡ count_at taken c
  same_count taken k c other = get_or-set_other taken k c (count_at taken k + 1) 0 other

  sum_same : (taken : List ℕ) (k c : ℕ) (events : List ℕ) → k < c → sum_left (with_taken taken k) c events ≡ sum_left taken c events
  sum_same taken k c [] low = refl
  sum_same taken k c (e ∷ events) low =
      (λ i. (length (of c world.posts) - same_count taken k c (λ is. omega (arith, is, low)) i)
      + sum_same taken k (c + 1) events (omega (arith, low)) i)

  sum_falls : (taken : List ℕ) (k c i : ℕ) (events : List ℕ) → k ≡ c + i → i < length events → k < length taken
      → count_at taken k < length (of k world.posts) → sum_left (with_taken taken k) c events < sum_left taken c events
  sum_falls taken k c i [] is low known left = absurd (omega (arith, low))
  sum_falls taken k c zero (e ∷ events) is low known left =
      let here : c ≡ k = omega (arith, is) in
      let one : count_at (with_taken taken k) c ≡ count_at taken k + 1 =
      ap (count_at (with_taken taken k)) here ∙ get_or-set_same taken k (count_at taken k + 1) 0 known in
      let was : count_at taken c ≡ count_at taken k = ap (count_at taken) here in
      let many : length (of c world.posts) ≡ length (of k world.posts) = ap (λ d. length (of d world.posts)) here in
      omega (arith, one, was, many, left, sum_same taken k (c + 1) events (omega (arith, here)))
  sum_falls taken k c (suc i) (e ∷ events) is low known left =
      let other : c ≢ k = λ same. omega (arith, same, is) in
      omega (
        arith,
        same_count taken k c other,
        sum_falls taken k (c + 1) i events (omega (arith, is)) (omega (arith, low)) known left,
      )

  abbrev total : Core B → ℕ
  total core = sum_left core.taken 0 world.events

  -- the counts of a core are of all clients
  abbrev CountsAll : Core B → Type 0
  CountsAll core = length core.taken ≡ length world.events

  counts_first : CountsAll (first_core world)
  counts_first = length-replicate {A = ℕ} (length world.events) 0

  counts_on : (from to : Core B) → CountsAll from → TakeStep world from to ⊎ CallStep world from to → CountsAll to
  counts_on from to all step = elim step [
    | inl take ↦ ap (λ (c : Core B). length c.taken) (sym take.leads) ∙ length-set from.taken take.client (count_at from.taken take.client + 1) ∙ all
    | inr call ↦ ap (λ (c : Core B). length c.taken) (sym call.leads) ∙ all
  ]

  take_falls : (from to : Core B) → CountsAll from → TakeStep world from to → total to < total from
  take_falls from to all take =
      let same = ap total (sym take.leads) in
      let left = inside (of take.client world.posts) (count_at from.taken take.client) take.line take.next in
      omega (
        arith,
        same,
        sum_falls from.taken take.client 0 take.client world.events (omega arith) take.within (omega (arith, all, take.within)) left,
      )

  call_same : (from to : Core B) → CallStep world from to → total to ≡ total from
  call_same from to call = ap total (sym call.leads)

  -- ---- steps by their numbers

  take_there : (from to : Core B) (number : ℕ) → number < length (takes_at world from) → slice_get (after world from) number ≡ Some to → TakeStep world from to
  take_there from to number low leads =
      elim (take_is world from 0 world.events
      (λ k w. (let at : 0 + k ≡ k = omega arith in (omega (arith, w), ap (λ n. slice_index_or world.events n 0) at ∙ refl))) [] number to
      (first_part (λ (step : Step B). step.to) (takes_at world from) (calls_at world from) number to low leads)) [
        | inl take ↦ take
        | inr other ↦ absurd (none_at other.0 to other.1)
      ]

  call_there : (from to : Core B) (number : ℕ) → length (takes_at world from) ≤ number → slice_get (after world from) number ≡ Some to → CallStep world from to
  call_there from to number high leads = call_is world from to (number - length (takes_at world from))
      (other_part (λ (step : Step B). step.to) (takes_at world from) (calls_at world from) number to high leads)

  -- ---- over or not

  goes_if : (core : Core B) → is_over world core ≡ false → (length (steps_at world core) == 0) ≡ false
  goes_if core none = by core.pod.state.ended (length (steps_at world core) == 0) none
    where
      by : (ended nowhere : Bool) → is_some (if ended then Some (halt.Ended core.pod.state.status) else if nowhere then Some halt.Stuck else None) ≡ false
          → nowhere ≡ false
      by true nowhere h = absurd (false≢true (sym h))
      by false true h = absurd (false≢true (sym h))
      by false false h = refl

  never_spent : (core : Core B) → halt_of world core ≡ Some halt.Spent → ⊥
  never_spent core h = by core.pod.state.ended (length (steps_at world core) == 0) h
    where
      by : (ended nowhere : Bool) → (if ended then Some (halt.Ended core.pod.state.status) else if nowhere then Some halt.Stuck else None) ≡ Some halt.Spent → ⊥
      by true nowhere h = absurd cc
      by false true h = absurd cc
      by false false h = absurd cc

  led : (from to : Core B) (number : ℕ) → IsOn world from number to → (length (steps_at world from) == 0) ≡ false → slice_get (after world from) number ≡ Some to
  led from to number on some = by (length (steps_at world from) == 0) some on
    where
      by : (b : Bool) → b ≡ false → MatchBool b (to ≡ from) (slice_get (after world from) number ≡ Some to) → slice_get (after world from) number ≡ Some to
      by true h on = absurd (false≢true (sym h))
      by false h on = on

  only_is : (from to : Core B) → (length (takes_at world from) == 0) ≡ true → CallStep world from to → only_call world from ≡ Some to
  only_is from to none call =
      ap (λ b. if b && has_turn from.pod.state then Some (call_made world from).to else None) none
      ∙ ap (λ b. if b then Some (call_made world from).to else None) call.due
      ∙ ap (λ c. Some c) call.leads

module _ {B : Type 0} (world : World B) (limit : ℕ) (found : Searched B) (is : IsSearched world limit found) (whole : found.whole ≡ true)
    (ended : AreEnded found.kinds) (session : LongSession world) (coming : LinesKeepComing world session) where
  -- a step is made, or none is
  on_by : (P : Core B → Type 0) (n : ℕ) → P (session.core n)
      → ((to : Core B) → slice_get (after world (session.core n)) (session.step n) ≡ Some to → P to) → P (session.core (suc n))
  on_by P n h more = by (length (steps_at world (session.core n)) == 0) (session.goes n)
    where
      by : (b : Bool) → MatchBool b (session.core (suc n) ≡ session.core n)
          (slice_get (after world (session.core n)) (session.step n) ≡ Some (session.core (suc n))) → P (session.core (suc n))
      by true on = subst P (sym on) h
      by false on = more (session.core (suc n)) on

  abbrev Reach : Core B → Type 0
  Reach core = (path : List ℕ) × (walk (after world) (first_core world) path ≡ Some core)

  reached : (n : ℕ) → Reach (session.core n)
  reached zero = ([], ap (λ c. Some c) (sym session.begins))
  reached (suc n) = on_by Reach n (reached n) (λ to leads. (
    (reached n).0 ++ session.step n ∷ [],
    walk_push (after world) (first_core world) (session.core n) to (reached n).0 (session.step n) (reached n).1 leads,
  ))

  counts : (n : ℕ) → CountsAll world (session.core n)
  counts zero = ap (λ (c : Core B). length c.taken) session.begins ∙ counts_first world
  counts (suc n) = on_by (CountsAll world) n (counts n)
      (λ to leads. counts_on world (session.core n) to (counts n) (step_is world (session.core n) to (session.step n) leads))

  place : (n : ℕ) → Has found.cores (session.core n)
  place n = is.all whole (reached n).0 (session.core n) (reached n).1

  over_ends : (n : ℕ) → is_over world (session.core n) ≡ true → EndsListed world found.kinds session
  over_ends n over = by (halt_of world (session.core n)) refl over
    where
      by : (o : Option Halt) → halt_of world (session.core n) ≡ o → is_some o ≡ true → EndsListed world found.kinds session
      by None e h = absurd (false≢true h)
      by (Some (halt.Ended status)) e h =
          let kind : Kind = record { end = end.Ended status; left = has_left world (session.core n) } in
          record {
            steps = n;
            at = (place n).0;
            kind = kind;
            status = status;
            listed = is.told (place n).0 (session.core n) kind (place n).1 (record { ends = e; left = refl }) (λ same. whole);
            ended = refl;
            ends = record { ends = e; left = refl };
          }
      by (Some halt.Stuck) e h =
          let kind : Kind = record { end = end.Stuck; left = has_left world (session.core n) } in
          absurd (false≢true (sym (ended (place n).0 kind
          (is.told (place n).0 (session.core n) kind (place n).1 (record { ends = e; left = refl }) (λ same. whole)))))
      by (Some halt.Spent) e h = absurd (never_spent world (session.core n) e)

  calls_from : (d i : ℕ) → ((k : ℕ) → i ≤ k → k < i + d → CallStep world (session.core k) (session.core (suc k))
      × (not (eqb (length (takes_at world (session.core k))) 0) ≡ false)) → only_calls world d (session.core i) ≡ Some (session.core (i + d))
  calls_from zero i calls = let same : i ≡ i + 0 = omega arith in ap (λ k. Some (session.core k)) same
  calls_from (suc d) i calls =
      let now = calls i (omega arith) (omega arith) in
      let on : suc i + d ≡ i + suc d = omega arith in
      ap (λ o. option_and_then (only_calls world d) o)
      (only_is world (session.core i) (session.core (suc i)) (none_there (length (takes_at world (session.core i))) now.1) now.0)
      ∙ calls_from d (suc i) (λ k le low. calls k (omega (arith, le)) (omega (arith, low)))
      ∙ ap (λ k. Some (session.core k)) on

  rounds_end : (i j : ℕ) → i < j → session.core i ≡ session.core j → ((k : ℕ) → i ≤ k → k < j
      → CallStep world (session.core k) (session.core (suc k)) × (not (eqb (length (takes_at world (session.core k))) 0) ≡ false))
      → EndsListed world found.kinds session
  rounds_end i j less same calls =
      let d = j - i - 1 in
      let far : i + suc d ≡ j = omega (arith, less) in
      let back : only_calls world (suc d) (session.core i) ≡ Some (session.core i) =
      calls_from (suc d) i (λ k le low. calls k le (omega (arith, low, far))) ∙ ap (λ k. Some (session.core k)) far ∙ ap (λ c. Some c) (sym same) in
      let kind : Kind = record { end = end.Endless; left = has_left world (session.core i) } in
      absurd (false≢true (sym (ended (place i).0 kind
      (is.told (place i).0 (session.core i) kind (place i).1 (record { ends = (d, back); left = refl }) (λ e. whole)))))

  steps_on : (n : ℕ) → session.step n < length (takes_at world (session.core n)) → (length (steps_at world (session.core n)) == 0) ≡ false
  steps_on n low = by (length (steps_at world (session.core n)))
      (omega (arith, low, length-append (takes_at world (session.core n)) (calls_at world (session.core n))))
    where
      by : (x : ℕ) → 0 < x → (x == 0) ≡ false
      by zero h = absurd (omega (arith, h))
      by (suc x) h = ne_eqb (suc x) 0 (λ e. omega (arith, e))

  way : Way (λ n. is_over world (session.core n) ≡ true) (λ n. session.step n < length (takes_at world (session.core n)))
      (λ n. CallStep world (session.core n) (session.core (suc n))) (λ i j. session.core i ≡ session.core j) (length found.cores)
      (λ n. total world (session.core n)) (λ n. not (eqb (length (takes_at world (session.core n))) 0)) (EndsListed world found.kinds session)
  way = record {
    place = λ n. (place n).0;
    placed = λ n. inside found.cores (place n).0 (session.core n) (place n).1;
    at_same = λ i j same. some_is (sym (place i).1 ∙ ap (slice_get found.cores) same ∙ (place j).1);
    kind = λ n. by_over n (is_over world (session.core n)) refl;
    falls = λ n. on_by (λ to. total world to ≤ total world (session.core n)) n (omega arith) (λ to leads.
        elim (step_is world (session.core n) to (session.step n) leads) [
          | inl take ↦ omega (arith, take_falls world (session.core n) to (counts n) take)
          | inr call ↦ omega (arith, call_same world (session.core n) to call)
        ]);
    uses = λ n low. take_falls world (session.core n) (session.core (suc n)) (counts n)
        (take_there world (session.core n) (session.core (suc n)) (session.step n) low
        (led world (session.core n) (session.core (suc n)) (session.step n) (session.goes n) (steps_on n low)));
    over = over_ends;
    round = rounds_end;
    fair = λ n can. let later = coming n (some_there (length (takes_at world (session.core n))) can) in (later.at, later.later, later.takes);
  }
    where
      by_over : (n : ℕ) (b : Bool) → is_over world (session.core n) ≡ b
          → ((is_over world (session.core n) ≡ true) ⊎ (session.step n < length (takes_at world (session.core n))))
          ⊎ CallStep world (session.core n) (session.core (suc n))
      by_over n true e = inl (inl e)
      by_over n false e =
          let leads = led world (session.core n) (session.core (suc n)) (session.step n) (session.goes n) (goes_if world (session.core n) e) in
          elim (cases_lt (session.step n) (length (takes_at world (session.core n)))) [
            | inl low ↦ inl (inr low)
            | inr high ↦ inr (call_there world (session.core n) (session.core (suc n)) (session.step n) high leads)
          ]

  pub ends : EndsListed world found.kinds session
  ends = is_done way

pub sessions_end : (B : Type 0) → SessionsEnd B
sessions_end B world limit found is whole ended session coming = ends world limit found is whole ended session coming
